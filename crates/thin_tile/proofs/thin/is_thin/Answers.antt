-- `is_thin` meets its contract: the tile's counts begin inside their groups, and its tests are the definition's, of the widths.
-- Assumes nothing.
use mathlib.Core.Bool.{◌&&◌, ◌||◌}
use native.Mathlib.Nat.{le_of_lt}
use lib.Dec.{leb}
use Rattle.tile_blocks.specs.Side.{left, right}
use Rattle.thin_tile.specs.ThinTile.{is_thin}
use Rattle.thin_tile.proofs.thin.is_thin.Goals as goal

pub width_of-rows-requires : goal.width_of-rows-requires
width_of-rows-requires c = le_of_lt (c.requires.1.side left)

pub width_of-columns-requires : goal.width_of-columns-requires
width_of-columns-requires c = le_of_lt (c.requires.1.side right)

pub returns : goal.returns
unfolding is_thin
returns c = λ k. (leb (c.width_of-rows.ensures k) 4 || leb (c.width_of-columns.ensures k) 4) && leb 8 (c.width_of-filled.ensures k)
