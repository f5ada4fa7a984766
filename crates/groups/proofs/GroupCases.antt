-- The groups of labels of every kind, by computation.
-- Assumes nothing.
use mathlib.Core.Path.{refl}
use Rattle.labels.specs.Labels.{labels}
use Rattle.contraction.specs.Operands.{together}
use Rattle.groups.specs.Groups.{group_of, in_group, group}
use Rattle.groups.specs.GroupCases.{GroupCases}

pub group_cases : GroupCases
unfolding labels together group_of in_group group
group_cases =
    record {
      in_batch = refl;
      in_row = refl;
      in_column = refl;
      in_depth = refl;
      row_size = refl;
      depth_size = refl;
    }
