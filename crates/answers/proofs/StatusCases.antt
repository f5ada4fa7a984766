-- The numbers that the flat calls return and set, by computation.
-- Assumes nothing.
use mathlib.Core.Path.{refl}
use Rattle.answers.specs.StatusCases.{StatusCases}

pub status_cases : StatusCases
status_cases =
    record {
      plain = refl;
      tiles = refl;
      state = refl;
      complete = refl;
      found = refl;
      delay = refl;
    }
