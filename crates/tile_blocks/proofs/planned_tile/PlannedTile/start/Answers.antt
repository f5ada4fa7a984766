-- `start` meets its contract: the tile's batch count is inside its group.
-- Assumes nothing.
use Rattle.groups.specs.Groups.{batch}
use Rattle.tile_blocks.proofs.TileParts.{batch_in}
use Rattle.tile_blocks.proofs.planned_tile.PlannedTile.start.Goals as goal

pub at_batch-requires : goal.at_batch-requires
at_batch-requires c = (c.requires.grid.few batch, batch_in c.requires.grid c.requires.begins)
