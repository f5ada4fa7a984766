-- `depth_starts` meets its contract: the panel begins inside the depth group, and the tensor stands where the tile's batch count leaves it.
-- Assumes nothing.
use Rattle.tile_blocks.proofs.TileParts.{panel_part}
use Rattle.tile_blocks.proofs.planned_tile.PlannedTile.depth_starts.Goals as goal

pub panel_starts-requires : goal.panel_starts-requires
panel_starts-requires c = panel_part c.requires.grid c.requires.begins
