-- What the code that copies may assume of blocks and slices. Inside contracts only.
-- Assumes nothing.
use Rattle.std.specs.Prelude.{◌≡◌, ℕ, ◌≤◌}
use Rattle.limits.specs.Limits.{block_limit}
use Rattle.block.specs.declared.block.Block.{Block}
use Rattle.block.specs.Places.{PlacesIn}

-- a tile can be copied: read from a slice of `c` words, written to one of `d` words
pub record Copyable (from : ℕ) (rows cols : Block) (to : ℕ) (down across : Block) (c d : ℕ) : Type 0 where
  pub few_rows : down.count ≤ block_limit  -- there is an offset for each row
  pub few_columns : across.count ≤ block_limit  -- and for each column
  pub same_rows : rows.count ≡ down.count  -- C's tile has as many rows as D's
  pub same_columns : cols.count ≡ across.count  -- and as many columns
  pub reads : PlacesIn from cols.offsets cols.count rows.offsets rows.count c  -- all that is read is inside
  pub writes : PlacesIn to across.offsets across.count down.offsets down.count d  -- all that is written is inside
