-- Where C is not named, the call reads nothing of it: every definition takes D's layout and length for its, and the old word for its entry.
-- Assumes nothing.
use mathlib.Core.Path.{refl}
use Rattle.meaning.specs.Meaning.{entry, value, result}
use Rattle.plain.specs.PlainCall.{plain_call}
use Rattle.plain.specs.PlainWithoutC.{PlainWithoutC}

pub plain_without_c : PlainWithoutC
unfolding plain_call result value entry
plain_without_c a b c d alpha beta wa wb wc wd = refl
