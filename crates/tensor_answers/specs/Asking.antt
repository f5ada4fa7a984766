-- A list of questions: the first *no* gives its number.
-- Assumes nothing.
use Rattle.std.specs.Prelude.{ℕ, Bool, cond, List, [], ◌∷◌}

-- a question: its number, and whether the answer is yes
pub record Question : Type 0 where
  pub number : ℕ
  pub passes : Bool

abbrev pub ask : ℕ → Bool → Question
ask n answer = record { number = n; passes = answer }

-- the number of the first question that fails, 0 where none does
abbrev pub refusal : List Question → ℕ
refusal [] = 0
refusal (q ∷ qs) = cond q.passes (refusal qs) q.number
