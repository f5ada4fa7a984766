-- The sums of a line of a tile, a row or a column, by the places of the words that are read. Inside contracts only.
-- Assumes nothing.
use Rattle.std.specs.Prelude.{◌≡◌, ℕ, ◌+◌, ◌*◌, ◌<◌, ◌≤◌, List, slice_index}
use Rattle.words.specs.Words.{word}
use Rattle.words.specs.Sums.{sum_to}
use Rattle.words.specs.Stepped.{stepped}
use Rattle.limits.specs.Limits.{block_limit, depth_limit}
use Rattle.block.specs.Places.{place_of}
use Rattle.pack.specs.PackNeeds.{PlacesAt}

-- Σ over the first `depth` starts of the word at place r of the block there × the line's word
unfoldable pub line_sum : List ℕ → List ℕ → List ℕ → List ℕ → ℕ → ℕ → ℕ
line_sum src starts offsets line depth r = sum_to depth (λ k. slice_index src (place_of (slice_index starts k) offsets r) * slice_index line k)

-- each of the first n address words is one past the word before
pub record ByOnes (n : ℕ) (xs : List ℕ) : Type 0 where
  pub each : (k : ℕ) → k < n → word 64 (slice_index xs k) ≡ stepped (slice_index xs 0) 1 k

-- the first n words are those `offset` past each start
pub record LineOf (n : ℕ) (src starts : List ℕ) (offset : ℕ) (line : List ℕ) : Type 0 where
  pub each : (k : ℕ) → k < n → slice_index line k ≡ slice_index src (word 64 (slice_index starts k + offset))

-- the sums of a line along n places of a block can be formed from a slice of `src` words
pub record LineSummable (starts : List ℕ) (depth : ℕ) (offsets : List ℕ) (n src : ℕ) : Type 0 where
  pub some : 1 ≤ n
  pub few : n ≤ block_limit
  pub shallow : depth ≤ depth_limit
  pub reads : PlacesAt starts depth offsets n src
