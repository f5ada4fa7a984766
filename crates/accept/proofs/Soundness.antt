-- The setting of an accepted contraction is sound: its output indices address different words, all inside; and what all its tiles make is the plain result.
-- The batch, row and column labels split D's: so question 9 tells their counts from the address, and each index in range of D has counts. What the plain sum
-- reads of A and B at counts of all groups is what they hold at the counts of their own.
-- Assumes nothing.
use mathlib.Core.Path.{◌≡◌, refl, sym, ap, ◌∙◌, subst}
use mathlib.Core.Bool.{Bool, true, cond}
use mathlib.Core.List.{List, [], ◌∷◌}
use mathlib.Core.Logic.{◌≢◌}
use Prim.Native.Nat.{ℕ, ◌+◌, ◌*◌, ◌<◌}
use native.Mathlib.Nat.{add_comm}
use lib.ListN.{length, get_or}
use Rattle.words.specs.Sums.{sum_to}
use Rattle.words.specs.Words.{word}
use Rattle.words.proofs.Sums.{sum_to_ext}
use Rattle.layout.specs.Layout.{axes, address}
use Rattle.points.specs.LabelQuestions.{letters_same}
use Rattle.entries.specs.Bounds.{InRange}
use Rattle.entries.proofs.Bounds.{inside_every}
use Rattle.contraction.specs.declared.contraction.Contraction.{Contraction}
use Rattle.contraction.specs.Operands.{named, tensors}
use Rattle.contraction.specs.declared.contraction.Operand.{Operand}
use Rattle.contraction.specs.declared.contraction.Operand.TheVariants.{A, B, C, D}
use Rattle.questions.proofs.Ready.{AllPassed}
use Rattle.groups.specs.Groups.{Group, batch, row, column, depth, in_group, group}
use Rattle.meaning.specs.Index.{index}
use Rattle.meaning.specs.Meaning.{Slices, lengths_in, shape_in, start_of, entry, result}
use Rattle.meaning.proofs.EngineIndices.{out_groups}
use Rattle.meaning.proofs.IndexParts.{Part, Below, at_parts, parts_in_range}
use Rattle.meaning.proofs.Onto.{parts_onto}
use Rattle.meaning.proofs.OwnGroups.{group_counts, all_groups, groups_of, groups_at, of_own_d, own_group, own_cover, address_own}
use Rattle.meaning.proofs.Result.{parts_apart, length_result, term, value_counts}
use Rattle.meaning.proofs.Values.{result_in_range, result_elsewhere}
use Rattle.plan.specs.declared.plan.Plan.{Plan}
use Rattle.plan.specs.Plan.{Planned}
use Rattle.tiles.specs.declared.grid.Sizes.{Sizes}
use Rattle.tiles.specs.Cut.{InSizes, total}
use Rattle.tiles.specs.TileWalk.{OwnPlaces}
use Rattle.tiles.specs.Setting.{setting_by, closed}
use Rattle.tiles.proofs.Closed.{Sound, direct, shows_render, closed_total}
use Rattle.tile_blocks.specs.Side.{Side, left, right, both, tensor_on, group_on, size_on}
use Rattle.tile_blocks.specs.ContractionInTiles.{cut_of, output_index, address_at, start_at, entry_on, setting}
use Rattle.tile_blocks.specs.Planned.{place_in, place_of_output, Clear}
use Rattle.tile_questions.specs.TileQuestions.{sizes_fit}
use Rattle.tile_questions.proofs.TileSizes.{sizes_limited}
use Rattle.accept.proofs.Reaches.{side_entry, out_entry, reaches_d}

-- the setting reads A, B and C only
pub setting_same : (c : Contraction) (z : Sizes) (v w : Slices) → v A ≡ w A → v B ≡ w B → v C ≡ w C → setting c z v ≡ setting c z w
unfolding setting entry_on start_at entry
setting_same c z v w e f g = λ x. setting_by (cut_of c z) (address_at c) (on left (e x)) (on right (f x)) (from (g x)) c.alpha c.beta
  where
    on : Side → List ℕ → ℕ → ℕ → ℕ → ℕ
    on s words h m k = get_or words (address (tensors c (tensor_on s)) (index (shape_in c) ((depth, k) ∷ (batch, h) ∷ (group_on s, m) ∷ []))) 0

    from : List ℕ → ℕ → ℕ → ℕ → ℕ → ℕ
    from words h i j old = start_of (named c) (get_or words (address (tensors c C) (output_index c h i j)) 0) old

-- the parts of the index of a batch, a row and a column count
abbrev parts : Contraction → ℕ → ℕ → ℕ → List Part
parts c h i j = groups_at (shape_in c) (group_counts h i j 0) (groups_of D)

module _ (c : Contraction) (w : Slices) (same : letters_same (axes (tensors c C)) (axes (tensors c D)) ≡ true) where
  -- at counts of all groups a tensor has the entry that it has at those of its own
  entry_own : (o : Operand) (n : Group → ℕ)
      → entry c w o (at_parts (shape_in c) (groups_at (shape_in c) n all_groups)) ≡ entry c w o (at_parts (shape_in c) (groups_at (shape_in c) n (groups_of o)))
  unfolding entry
  entry_own o n = ap (λ (x : ℕ). get_or (w o) x 0) (address_own (tensors c) n o (own_group (shape_in c) same o))

  term_own : (h i j k : ℕ) → term c w (output_index c h i j) k ≡ entry_on c w left h i k * entry_on c w right h j k
  unfolding entry_on index group
  term_own h i j k = λ x. entry_own A (group_counts h i j k) x * entry_own B (group_counts h i j k) x

module _ (c : Contraction) (z : Sizes) (w : Slices) (ok : AllPassed (tensors c) (lengths_in c w)) (fit : sizes_fit z ≡ true) where
  open cut_of c z use {K}

  module _ (h i j : ℕ) (ix : InSizes (cut_of c z) h i j) where
    below : Below (shape_in c) (parts c h i j)
    unfolding group
    below = (ix.0, (ix.1, (ix.2, tt)))

    pub at_in_range : InRange (axes (tensors c D)) (output_index c h i j)
    unfolding index group
    at_in_range = parts_in_range (shape_in c) (rw ok.agree tt) D (parts c h i j) below (own_cover (shape_in c) (group_counts h i j 0) D (of_own_d (shape_in c)))

    inside : address_at c h i j < length (w D)
    unfolding address_at
    inside = (inside_every (tensors c D) (length (w D)) (rw (ok.within D) tt) (output_index c h i j) at_in_range).1

  apart : (h i j h' i' j' : ℕ) → InSizes (cut_of c z) h i j → InSizes (cut_of c z) h' i' j'
      → address_at c h i j ≡ address_at c h' i' j' → (h ≡ h') × (i ≡ i') × (j ≡ j')
  unfolding address_at index group
  apart h i j h' i' j' ix ix' e =
      let r = parts_apart (tensors c) (length (w D)) (rw ok.agree tt) (rw (ok.within D) tt) (rw ok.distinct tt)
      (in_group (shape_in c)) (groups_of D) (out_groups (shape_in c)) (group_counts h i j 0) (group_counts h' i' j' 0) (below h i j ix) (below h' i' j' ix') e in
      (r.0, r.1.0, r.1.1.0)

  own_places : OwnPlaces (cut_of c z) (address_at c) (length (w D))
  own_places = record { inside = inside; apart = apart }

  -- all that the tiles of the contraction's plan read and write is inside, and what they write is apart
  pub clear : (p : Plan) → Planned (tensors c) p → Clear p (cut_of c z) (named c) (length (w A)) (length (w B)) (length (w C)) (length (w D))
  clear p q =
      record {
        in_side = in_side_lem;
        in_c = λ e h i j bh bi bj. subst (λ (b : Bool). place_of_output p C h i j < cond b (length (w C)) (length (w D))) e (out_entry c n ok p q C refl h i j bh bi bj).inside;
        places = record { inside = λ h i j b. (out_entry c n ok p q D refl h i j b.0 b.1 b.2).inside; apart = λ h i j h' i' j' b b' e. apart h i j h' i' j' b b' (sym (at h i j b) ∙ e ∙ at h' i' j' b') };
      }
    where
      n : Operand → ℕ
      n = lengths_in c w

      at : (h i j : ℕ) → InSizes (cut_of c z) h i j → place_of_output p D h i j ≡ address_at c h i j
      at h i j b = reaches_d c n ok p q h i j b.0 b.1 b.2

      in_side_lem : (s : Side) (h m k : ℕ) → h < (cut_of c z).H → m < size_on (cut_of c z) s → k < (cut_of c z).K → place_in p s h m k < both (length (w A)) (length (w B)) s
      in_side_lem left h m k bh bm bk = (side_entry c n ok p q left h m k bh bm bk).inside
      in_side_lem right h m k bh bm bk = (side_entry c n ok p q right h m k bh bm bk).inside

  pub sound : Sound (setting c z w) (length (w D))
  unfolding setting
  sound =
      let sizes = sizes_limited z fit in
      record { rows_pos = sizes.rows.0; cols_pos = sizes.cols.0; depth_pos = sizes.depth.0; places = own_places }

  -- the plain result has the direct sum at each output index
  result_hit : (h i j : ℕ) → InSizes (cut_of c z) h i j
      → get_or (result c w) (address_at c h i j) 0 ≡ direct (setting c z w) h i j (get_or (w D) (address_at c h i j) 0)
  unfolding setting direct address_at start_at entry
  result_hit h i j ix =
      result_in_range c w ok (output_index c h i j) (at_in_range h i j ix)
      ∙ value_counts c w (output_index c h i j)
      ∙ ap (word 32) (add_comm (c.alpha * sum_to K (term c w (output_index c h i j))) (c.beta * start))
      ∙ ap (λ (x : ℕ). word 32 (c.beta * start + c.alpha * x)) (sum_to_ext K (λ k b. term_own c w ok.same h i j k))
    where
      start : ℕ
      start = start_of (named c) (entry c w C (output_index c h i j)) (entry c w D (output_index c h i j))

  -- and its old words elsewhere
  result_miss : (x : ℕ) → ((h i j : ℕ) → InSizes (cut_of c z) h i j → address_at c h i j ≢ x) → get_or (result c w) x 0 ≡ get_or (w D) x 0
  unfolding address_at index group
  result_miss x off =
      result_elsewhere c w ok x
      (λ ρ r e.
      let n = parts_onto (tensors c) (rw ok.agree tt) D (in_group (shape_in c)) (groups_of D) (out_groups (shape_in c)) ρ r in
      off (n.0 batch) (n.0 row) (n.0 column) (n.1.0, n.1.1.0, n.1.1.1.0) (n.2 ∙ e))

  pub closed_result : closed (setting c z w) (total (cut_of c z)) (w D) ≡ result c w
  unfolding setting
  closed_result =
      closed_total (setting c z w) (w D) sound
      ∙ sym (shows_render (setting c z w) (w D) sound (direct (setting c z w)) (record {
        len = length_result c w;
        hit = λ q b p. result_hit q.0 q.1 q.2 b;
        miss = λ x off. result_miss x (λ h i j b. off (h, i, j) b tt);
      }))
