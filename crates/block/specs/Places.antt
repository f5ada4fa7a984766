-- The code's blocks of offsets, and the places that they address. Inside contracts only.
-- Assumes nothing.
use Rattle.std.specs.Prelude.{◌≡◌, ℕ, ◌+◌, ◌<◌, ◌≤◌, min, cond, Option, Some, None, List, nat_lt, slice_index}
use Rattle.words.specs.Words.{word}
use Rattle.words.specs.Loops.{Within}
use Rattle.limits.specs.Limits.{block_limit}
use Rattle.block.specs.Block.{Step, even, scattered, step_from, block_step}
use Rattle.block.specs.Stretches.{longest_from}
use Rattle.block.specs.declared.block.Block.{Block}

-- the step that the code's option gives
abbrev pub as_step : Option ℕ → Step
as_step (Some s) = even s
as_step None = scattered

-- at each place the length of the longest even stretch from there on
pub record Measured (count : ℕ) (offsets lengths : List ℕ) : Type 0 where
  pub each : (i : ℕ) → slice_index lengths i ≡ longest_from count offsets i

-- s takes the address word x to y
pub record StepOf (x y s : ℕ) : Type 0 where
  pub is : s ≡ step_from x y
  pub reaches : y ≡ word 64 (x + s)

-- the block of the first `count` of these offsets
pub record BlockOf (count : ℕ) (offsets : List ℕ) (b : Block) : Type 0 where
  pub holds : b.offsets ≡ offsets
  pub used : b.count ≡ min count block_limit
  pub step : as_step b.step ≡ block_step count offsets
  pub lengths : Measured count offsets b.lengths

-- the address of place i of a block that begins at `from`
abbrev pub place_of : ℕ → List ℕ → ℕ → ℕ
place_of from offsets i = word 64 (from + slice_index offsets i)

-- from each of the first n places of another block, each place of a block is one of a slice of `size` words
pub record PlacesIn (from : ℕ) (outer : List ℕ) (n : ℕ) (offsets : List ℕ) (count size : ℕ) : Type 0 where
  pub each : (c : ℕ) → c < n → Within count (place_of (place_of from outer c) offsets) size

-- from the address `at` of a place to that of the next, place i: by the step, or by the offsets, of which there are none past the limit
abbrev pub place_after : ℕ → ℕ → List ℕ → Step → ℕ → ℕ
place_after at from offsets (even s) i = word 64 (at + s)
place_after at from offsets scattered i = cond (nat_lt i block_limit) (place_of from offsets i) from

-- the step is that of the first `count` offsets
pub record Stepped (count : ℕ) (offsets : List ℕ) (s : Step) : Type 0 where
  pub step : s ≡ block_step count offsets

-- the rows or columns of a block have places in a lane
pub record InLane (width count : ℕ) : Type 0 where
  pub fits : count ≤ width  -- one place each
  pub narrow : width ≤ block_limit  -- no lane is wider than a block can be
