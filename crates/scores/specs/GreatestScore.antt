-- What is claimed of the delay call: its lag has the greatest score, and is the smallest such lag.
-- Assumes nothing.
use Rattle.std.specs.Prelude.{ℕ, ◌≤◌, ◌<◌, ◌≡◌, List, ◌≤ℤ◌, ◌<ℤ◌}
use Rattle.tensor_answers.specs.Asking.{refusal}
use Rattle.answers.specs.DelayAnswer.{lag_found}
use Rattle.scores.specs.Score.{score}
use Rattle.scores.specs.DelayQuestions.{delay_questions}
use Rattle.scores.specs.DelayCall.{best_lag, delay_call}

-- questions 31 and 32 pass
abbrev pub DelayAccepted : List ℕ → List ℕ → ℕ → Type 0
DelayAccepted xs ys greatest = refusal (delay_questions xs ys greatest) ≡ 0

-- the answer is a lag from 0 to the greatest with its score; no lag scores more, and every smaller lag scores less
pub record Greatest (xs ys : List ℕ) (greatest lag : ℕ) : Type 0 where
  pub answered : delay_call xs ys greatest ≡ lag_found lag (score xs ys greatest lag)
  pub among : lag ≤ greatest
  pub most : (k : ℕ) → k ≤ greatest → score xs ys greatest k ≤ℤ score xs ys greatest lag
  pub first : (k : ℕ) → k < lag → score xs ys greatest k <ℤ score xs ys greatest lag

-- for all recordings and every greatest lag that questions 31 and 32 pass
abbrev pub GreatestFound : Type 0
GreatestFound = (xs ys : List ℕ) (greatest : ℕ) → DelayAccepted xs ys greatest → Greatest xs ys greatest (best_lag xs ys greatest)
