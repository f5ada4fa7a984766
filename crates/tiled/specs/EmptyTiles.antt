-- Layers with nothing in them, in tiles: what demand 3 comes to where the depth group, or one of D's groups, has size 0.
-- Assumes nothing.
use Rattle.std.specs.Prelude.{ℕ, ◌*◌, ◌≡◌, true, false, cond, List, map, length, get_or}
use Rattle.words.specs.Words.{word}
use Rattle.layout.specs.Layout.{axes}
use Rattle.entries.specs.EntryQuestions.{has_entries}
use Rattle.contraction.specs.declared.contraction.Contraction.{Contraction}
use Rattle.contraction.specs.Operands.{four, tensors}
use Rattle.contraction.specs.declared.contraction.Operand.TheVariants.{D}
use Rattle.tiles.specs.declared.grid.Sizes.{Sizes}
use Rattle.tiles.specs.Cut.{InSizes, KB, total}
use Rattle.tiles.specs.Progress.{old, final, done, state_at}
use Rattle.answers.specs.TileAnswer.{ran, tile_refused, tile_call_of}
use Rattle.answers.specs.StateAnswer.{state_refused}
use Rattle.tile_blocks.specs.Side.{Side}
use Rattle.tile_blocks.specs.ContractionInTiles.{cut_of, address_at, start_at, entry_on}
use Rattle.tile_questions.specs.TileQuestions.{work_fits, Accepted}
use Rattle.tiling.specs.Work.{packed_block}
use Rattle.tiled.specs.TileCall.{tile_call}
use Rattle.tiled.specs.Demand3.{Call, tiles, state, Answer, tiled, found, run, count}

-- what a call answers where there is no tile: a tile call 0 tiles done, which is all, or 11; a state question 13
abbrev pub at_once : Sizes → Call → Answer
at_once z (tiles budget work) = tiled (cond (work_fits z (length work)) (ran 0 true) (tile_refused 11 0))
at_once z (state h i j) = found (state_refused 13)

pub record EmptyTiles (c : Contraction) (z : Sizes) (a b cw d : List ℕ) : Type 0 where
  -- "Depth size 0 counts as one panel with no terms": its blocks are zeros, it makes beta × what the sum starts from of a word, and the word is final then
  pub one_panel : (cut_of c z).K ≡ 0 → KB (cut_of c z) ≡ 1
  pub zeros : (cut_of c z).K ≡ 0 → (s : Side) (n x : ℕ) → packed_block (cut_of c z) (entry_on c (four a b cw d)) s n x ≡ 0
  pub beta_start : (cut_of c z).K ≡ 0 → (calls : List Call) (h i j : ℕ) → InSizes (cut_of c z) h i j
      → get_or (run c z a b cw calls 0 d).words (address_at c h i j) 0
      ≡ cond (done (cut_of c z) (count c z calls 0) h i j 0)
      (word 32 (c.beta * start_at c (four a b cw d) h i j (get_or d (address_at c h i j) 0)))
      (get_or d (address_at c h i j) 0)
  pub old_or_final : (cut_of c z).K ≡ 0 → (calls : List Call) (h i j : ℕ) → InSizes (cut_of c z) h i j
      → state_at (cut_of c z) (count c z calls 0) h i j ≡ cond (done (cut_of c z) (count c z calls 0) h i j 0) final old
  -- "a batch, row or column size 0 gives total 0": where D has no entries
  pub no_tiles : has_entries (axes (tensors c D)) ≡ false → total (cut_of c z) ≡ 0
  -- with total 0 a tile call is complete at once and changes no word, and no output index has a state
  pub said : total (cut_of c z) ≡ 0 → (calls : List Call) → (run c z a b cw calls 0 d).said ≡ map (at_once z) calls
  pub words_stay : total (cut_of c z) ≡ 0 → (calls : List Call) → (run c z a b cw calls 0 d).words ≡ d
  pub work_stays : total (cut_of c z) ≡ 0 → (work : List ℕ) (budget : ℕ) → work_fits z (length work) ≡ true
      → tile_call c z (four a b cw d) work 0 budget ≡ tile_call_of (ran 0 true) d work

-- for every accepted contraction
abbrev pub EmptyTilesHold : Type 0
EmptyTilesHold = (c : Contraction) (z : Sizes) (a b cw d : List ℕ) → Accepted c z (four a b cw d) → EmptyTiles c z a b cw d
