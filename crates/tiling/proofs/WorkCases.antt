-- The work slice after a tile at the edge, by computation.
-- Assumes nothing.
use mathlib.Core.Path.{refl}
use Rattle.layout.specs.Layout.{axes_of, layout_of, axes, address}
use Rattle.labels.specs.Labels.{labels}
use Rattle.contraction.specs.Operands.{together}
use Rattle.groups.specs.Groups.{group_of, in_group, group}
use Rattle.meaning.specs.Index.{index}
use Rattle.meaning.specs.Meaning.{entry}
use Rattle.pack.specs.Packed.{packed_word}
use Rattle.tiles.specs.Cut.{blocks, width, MB, NB, KB, batch_of, column_of, panel_of, row_of}
use Rattle.tile_blocks.specs.ContractionInTiles.{entry_on}
use Rattle.tiling.specs.Work.{packed_block, packed, packed_last, work_after}
use Rattle.tiling.specs.WorkCases.{WorkCases}

pub work_cases : WorkCases
unfolding axes_of layout_of axes address labels together group_of in_group group index entry packed_word blocks width MB NB KB batch_of column_of panel_of row_of packed_block packed packed_last entry_on work_after
work_cases =
    record {
      edge = refl;
      none_run = refl;
      last_listed = refl;
      empty_depth = refl;
    }
