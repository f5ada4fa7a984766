-- `Letters::none` meets its contract: a count of 0 spells nothing, and the word 0 has no letter.
-- Assumes nothing.
use Rattle.std.proofs.Common.{refl, arith}
use Rattle.labels.specs.LetterSets.{spelled}
use Rattle.labels.proofs.Bits.{has_none}
use Rattle.labels.proofs.letter_sets.Letters.none.Goals as goal

pub returns : goal.returns
unfolding spelled
returns c = record { spells = refl; sets = λ d h. has_none d; few = omega arith }
