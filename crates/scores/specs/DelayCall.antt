-- What the delay call answers, of the recordings' words and the greatest lag.
-- Assumes nothing.
use Rattle.std.specs.Prelude.{ℕ, cond, List, eqb}
use Rattle.tensor_answers.specs.Asking.{refusal}
use Rattle.answers.specs.DelayAnswer.{DelayAnswer, lag_found, delay_refused}
use Rattle.scores.specs.Score.{score, best}
use Rattle.scores.specs.DelayQuestions.{delay_questions}

module _ (xs ys : List ℕ) (greatest : ℕ) where
  -- where questions 31 and 32 pass, a lag and its score; else the number of the first no
  unfoldable pub answer_at : ℕ → DelayAnswer
  answer_at lag =
      cond (eqb (refusal (delay_questions xs ys greatest)) 0)
      (lag_found lag (score xs ys greatest lag))
      (delay_refused (refusal (delay_questions xs ys greatest)))

  -- the lag with the greatest score
  abbrev pub best_lag : ℕ
  best_lag = best (score xs ys greatest) greatest

  unfoldable pub delay_call : DelayAnswer
  delay_call = answer_at best_lag
