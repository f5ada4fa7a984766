-- The kinds of the marks, by computation.
-- Assumes nothing.
use mathlib.Core.Path.{refl}
use Rattle.marks.specs.MarkCases.{MarkCases}

pub mark_cases : MarkCases
mark_cases =
    record {
      letters = refl;
      layouts = refl;
      words = refl;
      bytes = refl;
      go = refl;
      others = refl;
    }
