-- What the flat plain call gives.
-- Assumes nothing.
use Rattle.std.specs.Prelude.{ℕ, List}
use Rattle.answers.specs.PlainAnswer.{PlainAnswer, plain_done, plain_refused, PlainCall}

-- an answer as a number: 0 where the call is done, else that of the question that refused
abbrev pub plain_status : PlainAnswer → ℕ
plain_status plain_done = 0
plain_status (plain_refused n) = n

-- the number that a call returns, and D's words afterwards
pub record Flat : Type 0 where
  pub status : ℕ
  pub words : List ℕ

abbrev pub returned : ℕ → List ℕ → Flat
returned status words = record { status = status; words = words }

abbrev pub flat : PlainCall → Flat
flat k = returned (plain_status k.answer) k.words
