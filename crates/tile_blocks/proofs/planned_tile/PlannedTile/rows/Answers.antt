-- `rows` meets its contract: the tile's rows begin inside their group.
-- Assumes nothing.
use Rattle.tile_blocks.specs.Side.{left}
use Rattle.tile_blocks.proofs.TileParts.{side_part}
use Rattle.tile_blocks.proofs.planned_tile.PlannedTile.rows.Goals as goal

pub cut_block-requires : goal.cut_block-requires
cut_block-requires c = side_part c.requires.grid c.requires.begins left
