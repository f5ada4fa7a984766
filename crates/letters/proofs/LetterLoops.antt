-- What the loops over output indices put: each turn one letter more, at the place of its output index.
-- Assumes nothing.
use Rattle.std.proofs.Common.{◌≡◌, ℕ, ◌+◌, List, length, set, refl, ap, ◌∙◌, add-one, arith}
use Rattle.words.specs.Words.{word, word_of}
use Rattle.words.specs.Loops.{each, put}
use Rattle.words.proofs.Loops.{each_ext, each_none}
use Rattle.contraction.specs.declared.contraction.Operand.TheVariants.{D}
use Rattle.groups.specs.declared.groups.Group.{Group}
use Rattle.groups.specs.Groups.{batch, row, column, size}
use Rattle.groups.specs.Held.{labels_in}
use Rattle.offsets.specs.Counts.{offset_in}
use Rattle.plan.specs.declared.plan.Plan.{Plan}
use Rattle.plan.specs.Plan.{planned}
use Rattle.tiles.specs.declared.grid.Grid.{Grid}
use Rattle.tiles.specs.Cut.{Cut}
use Rattle.tiles.specs.Grid.{cut_in}
use Rattle.tiles.specs.Progress.{State, state_at}
use Rattle.tiles.proofs.Sizes.{index_has_tile}
use Rattle.tile_blocks.specs.Planned.{GridOf, at_batch, place_of_output}
use Rattle.tile_blocks.specs.TilePlaces.{moved_from}
use Rattle.letters.specs.PrintedLetters.{letter_of}
use Rattle.letters.specs.Placed.{lettered, column_letters}

-- ---- loops

-- the words are those that n turns leave
pub record Turns (body : ℕ → List ℕ → List ℕ) (was : List ℕ) (n : ℕ) (out : List ℕ) : Type 0 where
  pub kept : length out ≡ length was
  pub words : out ≡ each n body was

-- no turn, one turn more, and all
pub turns_none : (body : ℕ → List ℕ → List ℕ) (out : List ℕ) → Turns body out 0 out
unfolding each
turns_none body out = record { kept = refl; words = refl }

module _ {body : ℕ → List ℕ → List ℕ} {was : List ℕ} {n : ℕ} {out : List ℕ} (r : Turns body was n out) where
  pub turns_next : {next : List ℕ} → length next ≡ length out → next ≡ body n out → Turns body was (n + 1) next
  unfolding each
  turns_next l e = record { kept = l ∙ r.kept; words = rw add-one (e ∙ ap (body n) r.words) }

  pub turns_all : {bound : ℕ} → n ≡ bound → out ≡ each bound body was
  turns_all e = r.words ∙ ap (λ (k : ℕ). each k body was) e

-- ---- no tile

-- without a tile there is no output index, so that no turn puts a letter
pub no_letters : {p : Plan} {g : Grid} (o : GridOf p g) (t : ℕ) → g.total ≡ 0 → (out : List ℕ) → each (cut_in g).H (column_letters p (cut_in g) t) out ≡ out
no_letters {p} {g} o t z =
    each_none _ (cut_in g).H (λ h bh. each_none _ (cut_in g).N (λ j bj. each_none _ (cut_in g).M (λ i bi words.
    absurd (omega (arith, z, o.counted.total, index_has_tile (cut_in g) o.counted.fits.rows_pos o.counted.fits.cols_pos {h = h} {i = i} {j = j} (bh, bi, bj))))))

-- ---- the row counts of a batch and a column count

-- the grid's counts are those of the plan's groups
pub grid_sizes : {p : Plan} {g : Grid} → GridOf p g
    → ((cut_in g).H ≡ size (labels_in (planned p batch))) × ((cut_in g).M ≡ size (labels_in (planned p row))) × ((cut_in g).N ≡ size (labels_in (planned p column)))
grid_sizes o = (ap (λ (G : Cut). G.H) o.same, ap (λ (G : Cut). G.M) o.same, ap (λ (G : Cut). G.N) o.same)

-- the place of row count i, from where the batch and the column count stand in D
abbrev pub row_place : Group → ℕ → ℕ → ℕ
row_place g from i = moved_from from D (labels_in g) i

-- it is the plan's
pub plan_place : (p : Plan) (h j : ℕ) {across at from : ℕ} → across ≡ word 64 (offset_in (word_of 64) D (labels_in (planned p column)) j) → at ≡ at_batch p h D → from ≡ word 64 (at + across)
    → (i : ℕ) → row_place (planned p row) from i ≡ place_of_output p D h i j
unfolding place_of_output
plan_place p h j wc wa wf i = rw (wf, wa, wc)

-- and the one that the code forms
pub code_place : (g : Group) (from i : ℕ) {by place : ℕ} → by ≡ word 64 (offset_in (word_of 64) D (labels_in g) i) → place ≡ word 64 (from + by) → place ≡ row_place g from i
code_place g from i wb wp = rw (← wb) wp

-- the letter of row count i, put there
abbrev pub row_letter : Cut → ℕ → ℕ → ℕ → Group → ℕ → ℕ → List ℕ → List ℕ
row_letter G t h j g from i = put (λ was. letter_of (state_at G t h i j)) (row_place g from i)

pub row_next : (G : Cut) (t h j : ℕ) (g : Group) (from i : ℕ) {at letter : ℕ} {s : State} (out : List ℕ)
    → at ≡ row_place g from i → letter ≡ letter_of s → s ≡ state_at G t h i j → set out at letter ≡ row_letter G t h j g from i out
unfolding put
row_next G t h j g from i out f l s = rw (f, l, s)

pub rows_lettered : (p : Plan) (G : Cut) (t h j from : ℕ) → ((i : ℕ) → row_place (planned p row) from i ≡ place_of_output p D h i j) → (out : List ℕ)
    → each G.M (row_letter G t h j (planned p row) from) out ≡ each G.M (λ i. lettered p G t h i j) out
rows_lettered p G t h j from same = each_ext G.M (λ i b out. ap (λ (x : ℕ). put (λ was. letter_of (state_at G t h i j)) x out) (same i))
