-- A call of the tiled engine, as its tiles see it. Inside contracts only.
-- Assumes nothing.
use Rattle.std.specs.Prelude.{is_some}
use Rattle.tiles.specs.Grid.{cut_in}
use Rattle.tiles.specs.Setting.{Setting}
use Rattle.tile_blocks.specs.Planned.{plan_setting}
use Rattle.phases.specs.Phases.{words_of_c}
use Rattle.one_tile.specs.declared.tile.TiledCall.{TiledCall}

-- the contraction by the plan's address words
abbrev pub call_setting : TiledCall → Setting
call_setting k = plan_setting k.plan.now (cut_in k.grid.now) (is_some k.c) k.alpha k.beta k.a.now k.b.now (words_of_c k.c)
