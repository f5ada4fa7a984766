-- What the flat delay call gives.
-- Assumes nothing.
use Rattle.std.specs.Prelude.{ℕ, ℤ}
use Rattle.answers.specs.DelayAnswer.{DelayAnswer, lag_found, delay_refused}

-- the number that is returned: 0 where a lag was found
abbrev pub delay_status : DelayAnswer → ℕ
delay_status (lag_found lag score) = 0
delay_status (delay_refused number) = number

-- the lag and the score, which stay as they were where the call was refused
abbrev pub lag_after : DelayAnswer → ℕ → ℕ
lag_after (lag_found lag score) before = lag
lag_after (delay_refused number) before = before

abbrev pub score_after : DelayAnswer → ℤ → ℤ
score_after (lag_found lag score) before = score
score_after (delay_refused number) before = before

-- what a call returns, and the two numbers that it sets
pub record FlatDelay : Type 0 where
  pub status : ℕ
  pub lag : ℕ
  pub score : ℤ

abbrev pub delay_returned : ℕ → ℕ → ℤ → FlatDelay
delay_returned status lag score = record { status = status; lag = lag; score = score }

abbrev pub flat_delay : ℕ → ℤ → DelayAnswer → FlatDelay
flat_delay lag score answer = delay_returned (delay_status answer) (lag_after answer lag) (score_after answer score)
