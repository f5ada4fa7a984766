-- What the code that packs stores in lanes, and what it may assume of blocks and slices. Inside contracts only.
-- Assumes nothing.
use Rattle.std.specs.Prelude.{ℕ, ◌+◌, ◌<◌, ◌*◌, ◌≤◌, List, length, get_or}
use Rattle.words.specs.Loops.{Within}
use Rattle.limits.specs.Limits.{block_limit, depth_limit}
use Rattle.block.specs.declared.block.Block.{Block}
use Rattle.block.specs.Places.{place_of, Measured, InLane}
use Rattle.stretch.specs.declared.stretch.Lanes.{Lanes}
use Rattle.stretch.specs.StretchLanes.{lanes_stored, LanesRoom}

-- the words at the places of a block stored in lanes, those of the first lane from place `to` on
abbrev pub band_stored : Lanes → Block → ℕ → List ℕ → List ℕ
band_stored b block = lanes_stored b.count block.count b.width (λ q r. get_or b.src.now (place_of (get_or b.starts.now (b.first + q) 0) block.offsets r) 0)

-- a block can be packed in lanes: all that is read is inside their slice, and it is written to one of `out` words
pub record BandIn (b : Lanes) (block : Block) (to out : ℕ) : Type 0 where
  pub few : block.count ≤ block_limit
  pub fits : block.count ≤ b.width
  pub measured : Measured block.count block.offsets block.lengths
  pub any : 0 < b.count
  pub lanes : b.first + b.count ≤ depth_limit
  pub reads : (q : ℕ) → q < b.count → Within block.count (place_of (get_or b.starts.now (b.first + q) 0) block.offsets) (length b.src.now)
  pub room : LanesRoom b.count b.width b.width to out

-- from each of the first n starts, each place of a block is one of a slice of `size` words
pub record PlacesAt (starts : List ℕ) (n : ℕ) (offsets : List ℕ) (count size : ℕ) : Type 0 where
  pub each : (d : ℕ) → d < n → Within count (place_of (get_or starts d 0) offsets) size

-- a block can be packed in the first `filled` lanes: read from a slice of `src` words, written to one of `out` words
pub record Packable (starts : List ℕ) (filled : ℕ) (block : Block) (width src out : ℕ) : Type 0 where
  pub lane : InLane width block.count
  pub measured : Measured block.count block.offsets block.lengths  -- the lengths are those of the offsets
  pub lanes : filled ≤ depth_limit  -- there is a start for each lane
  pub reads : PlacesAt starts filled block.offsets block.count src  -- all that is read is inside
  pub room : width * filled ≤ out  -- the lanes are inside
