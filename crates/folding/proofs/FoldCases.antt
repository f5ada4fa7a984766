-- Labels of extent 1 and 0, and more than two labels, by computation.
-- Assumes nothing.
use mathlib.Core.Path.{refl}
use Rattle.folding.specs.FoldCases.{FoldCases}

pub fold_cases : FoldCases
fold_cases =
    record {
      dropped = refl;
      left_to_right = refl;
      neighbours = refl;
      zero_stays = refl;
      zero_joined = refl;
      c_follows = refl;
      c_steps_out = refl;
    }
