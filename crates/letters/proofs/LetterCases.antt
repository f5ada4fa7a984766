-- The letters of the states, by computation.
-- Assumes nothing.
use Rattle.std.proofs.Common.{refl}
use Rattle.letters.specs.LetterCases.{LetterCases}

pub letter_cases : LetterCases
letter_cases =
    record {
      printed = refl;
    }
