-- What the code that multiplies may assume of blocks and slices. Inside contracts only.
-- Assumes nothing.
use Rattle.std.specs.Prelude.{ℕ, ◌+◌, ◌*◌, ◌≤◌, List}
use Rattle.limits.specs.Limits.{depth_limit}
use Rattle.block.specs.Block.{Step}
use Rattle.block.specs.Places.{PlacesIn, Stepped, Measured, InLane}
use Rattle.columns.specs.declared.column_stores.Packing.{Packing}

-- a packed tile with m rows and n columns in use can be multiplied: read from a slice of `work` words, added to one of `d` words
pub record Multipliable (from : ℕ) (rows lengths : List ℕ) (m : ℕ) (columns : List ℕ) (n : ℕ) (step : Step) (p : Packing) (d work : ℕ) : Type 0 where
  pub row : InLane p.rows m
  pub column : InLane p.cols n
  pub measured : Measured m rows lengths  -- the lengths are those of the rows
  pub stepped : Stepped n columns step  -- the step is that of the columns
  pub lanes : p.filled ≤ p.depth  -- no more lanes are filled than there are
  pub shallow : p.depth ≤ depth_limit  -- a tile is no deeper than its limit
  pub writes : PlacesIn from columns n rows m d  -- all that is written is inside
  pub room : p.rows * p.depth + p.cols * p.depth ≤ work  -- both packed blocks are inside
