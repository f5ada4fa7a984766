-- Tile numbers, states and the panels of a list, by computation.
-- Assumes nothing.
use mathlib.Core.Path.{refl}
use Rattle.words.specs.Sums.{sum_to}
use Rattle.tiles.specs.Cut.{blocks, width, MB, NB, KB, total, tile_number, batch_of, column_of, panel_of, row_of}
use Rattle.tiles.specs.Progress.{done, done_count, state_at}
use Rattle.tiles.specs.TileWalk.{holds, panels_of, after}
use Rattle.tiles.specs.TileCases.{TileCases}

pub tile_cases : TileCases
unfolding sum_to blocks width MB NB KB total tile_number batch_of column_of panel_of row_of done done_count state_at holds panels_of after
tile_cases =
    record {
      blocks = refl;
      all = refl;
      widths = refl;
      digits = refl;
      number = refl;
      tile_34 = refl;
      state_by_state = refl;
      empty_depth = refl;
      old_then_final = refl;
      no_tiles = refl;
      panels_listed = refl;
      in_order = refl;
    }
