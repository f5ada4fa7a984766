-- `filled` meets its contract: the tile's panel begins inside the depth group.
-- Assumes nothing.
use Rattle.tile_blocks.proofs.planned_tile.PlannedTile.filled.Goals as goal

pub width_of-requires : goal.width_of-requires
width_of-requires c = c.requires.begins.panel
