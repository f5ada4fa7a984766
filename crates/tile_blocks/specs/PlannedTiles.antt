-- A tile of a plan's grid: what may be assumed of it, and its block of rows or columns in a tensor. Inside contracts only.
-- Assumes nothing.
use Rattle.std.specs.Prelude.{◌*◌}
use Rattle.contraction.specs.declared.contraction.Operand.{Operand}
use Rattle.groups.specs.Held.{labels_in}
use Rattle.plan.specs.declared.plan.Plan.{Plan}
use Rattle.plan.specs.Plan.{planned}
use Rattle.block.specs.declared.block.Block.{Block}
use Rattle.scatter.specs.ScatterVectors.{Blocked}
use Rattle.tiles.specs.declared.grid.Tile.{Tile}
use Rattle.tiles.specs.Cut.{Cut, width}
use Rattle.tiles.specs.Grid.{cut_in}
use Rattle.tile_blocks.specs.declared.planned_tile.PlannedTile.{PlannedTile}
use Rattle.tile_blocks.specs.Side.{Side, group_on, size_on, tile_on}
use Rattle.tile_blocks.specs.Planned.{GridOf}
use Rattle.tile_blocks.specs.TilePlaces.{block_in, Begins}

-- the grid is that of the plan's groups, and the tile's counts begin inside them
pub record Placed (t : PlannedTile) : Type 0 where
  pub grid : GridOf t.plan.now t.grid.now
  pub begins : Begins (cut_in t.grid.now) t.at

-- the code's block of a side's counts in a tensor
abbrev pub SideBlock : Plan → Cut → Tile → Operand → Side → Block → Type 0
SideBlock p G x o s = Blocked o (labels_in (planned p (group_on s))) (block_in x s * tile_on G s) (width (size_on G s) (tile_on G s) (block_in x s))
