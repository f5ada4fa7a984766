-- Stretches, by computation.
-- Assumes nothing.
use Rattle.std.proofs.Common.{refl}
use Rattle.block.specs.Block.{classify}
use Rattle.block.specs.Stretches.{longest, longest_from}
use Rattle.block.specs.StretchCases.{StretchCases}

pub stretch_cases : StretchCases
unfolding classify longest longest_from
stretch_cases =
    record {
      first = refl;
      later = refl;
      in_order = refl;
      past_count = refl;
      down = refl;
      above_64 = refl;
      last_of_64 = refl;
      past_64 = refl;
      all_splits = refl;
    }
