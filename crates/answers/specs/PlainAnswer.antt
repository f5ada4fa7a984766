-- What a call of the plain engine answers, and D's words afterwards.
-- Assumes nothing.
use Rattle.std.specs.Prelude.{ℕ, List, Result, Ok, Err}
use Rattle.refusals.specs.declared.refusal.Refusal.{Refusal}
use Rattle.refusals.specs.Numbers.{number}

-- done, or the number of the question that refused
pub data PlainAnswer : Type 0 where
  plain_done : PlainAnswer
  plain_refused : ℕ → PlainAnswer

-- the answer that the code's result gives
abbrev pub plain_answer : Result (Unit {0}) Refusal → PlainAnswer
plain_answer (Ok x) = plain_done
plain_answer (Err e) = plain_refused (number e)

-- the answer and D's words after a call
pub record PlainCall : Type 0 where
  pub answer : PlainAnswer
  pub words : List ℕ

abbrev pub plain_call_of : PlainAnswer → List ℕ → PlainCall
plain_call_of answer words = record { answer = answer; words = words }
