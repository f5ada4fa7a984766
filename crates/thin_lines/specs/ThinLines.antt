-- The lines of a thin tile: the few rows or columns of its short side, each along its long side. Inside contracts only.
-- Assumes nothing.
use Rattle.std.specs.Prelude.{◌≡◌, ℕ, ◌*◌, ◌≤◌, Bool, true, false, List, slice_index}
use Rattle.words.specs.Words.{word}
use Rattle.words.specs.Sums.{sum_to}
use Rattle.words.specs.Loops.{each, put}
use Rattle.limits.specs.Limits.{block_limit}
use Rattle.block.specs.declared.block.Block.{Block}
use Rattle.block.specs.Places.{place_of, PlacesIn, Measured}
use Rattle.pack.specs.PackNeeds.{PlacesAt}
use Rattle.accumulate.specs.declared.accumulate.Factors.{Factors}
use Rattle.accumulate.specs.Added.{added_to}
use Rattle.thin_sums.specs.LineSums.{ByOnes, LineSummable}

-- Σ over the first `depth` starts of the word at place r of a block in a tensor × that at place q of another block in another tensor
unfoldable pub cross_sum : List ℕ → List ℕ → List ℕ → List ℕ → List ℕ → List ℕ → ℕ → ℕ → ℕ → ℕ
cross_sum long starts offsets short begins places depth r q =
    sum_to depth (λ k. slice_index long (place_of (slice_index starts k) offsets r) * slice_index short (place_of (slice_index begins k) places q))

-- D's words with these sums added, line by line; `from` is where the tile's batch count leaves D
abbrev pub lines_added : Factors → (ℕ → ℕ → ℕ) → ℕ → List ℕ → ℕ → List ℕ → ℕ → List ℕ → List ℕ
lines_added f sum from across m along n = each m (λ q. each n (λ r. put (added_to f (word 32 (sum r q))) (place_of (place_of from across q) along r)))

-- the lines of a short block along a long one can be summed, read from slices of `long` and `short` words, and added to one of `d` words
pub record LinesClear (starts begins : List ℕ) (depth : ℕ) (l s : Block) (from : ℕ) (along across : Block) (long short d : ℕ) : Type 0 where
  pub lines : s.count ≤ block_limit
  pub reads : LineSummable starts depth l.offsets l.count long
  pub words : PlacesAt begins depth s.offsets s.count short
  pub measured : Measured l.count along.offsets along.lengths
  pub writes : PlacesIn from across.offsets s.count along.offsets l.count d

-- the starts, or else the block's offsets, go up by one
pub record Goes (run : Bool) (depth : ℕ) (starts : List ℕ) (n : ℕ) (offsets : List ℕ) : Type 0 where
  pub deep : run ≡ true → ByOnes depth starts
  pub side : run ≡ false → ByOnes n offsets
