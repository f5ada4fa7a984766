-- What a call of the plain engine answers, and D's words afterwards.
-- Assumes nothing.
use Rattle.std.specs.Prelude.{cond, eqb}
use Rattle.contraction.specs.declared.contraction.Contraction.{Contraction}
use Rattle.contraction.specs.declared.contraction.Operand.TheVariants.{D}
use Rattle.meaning.specs.Meaning.{Slices, first_no, result}
use Rattle.answers.specs.PlainAnswer.{plain_done, plain_refused, PlainCall, plain_call_of}

-- where questions 1 to 9 pass, the result; else the number of the first no, and D as it was
unfoldable pub plain_call : Contraction → Slices → PlainCall
plain_call c w =
    cond (eqb (first_no c w) 0)
    (plain_call_of plain_done (result c w))
    (plain_call_of (plain_refused (first_no c w)) (w D))
