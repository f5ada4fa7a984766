-- What a delay call answers.
-- Assumes nothing.
use Rattle.std.specs.Prelude.{ℕ, ℤ, Result, Ok, Err}
use Rattle.refusals.specs.declared.refusal.Refusal.{Refusal}
use Rattle.refusals.specs.Numbers.{number as number_of}
use Rattle.answers.specs.declared.delay_answer.Found.{Found}

-- a lag and its score, or the number of the question that refused
pub data DelayAnswer : Type 0 where
  lag_found : (lag : ℕ) (score : ℤ) → DelayAnswer
  delay_refused : (number : ℕ) → DelayAnswer

-- the answer that the code's result gives
abbrev pub delay_answer : Result Found Refusal → DelayAnswer
delay_answer (Ok x) = lag_found x.lag x.score
delay_answer (Err e) = delay_refused (number_of e)
