-- The small cases of the delay call, by computation.
-- Assumes nothing.
use mathlib.Core.Path.{refl}
use Rattle.words.specs.Sums.{sum_ℤ}
use Rattle.scores.specs.Score.{score, best}
use Rattle.scores.specs.DelayQuestions.{lags_fit, sample_fits, delay_questions}
use Rattle.scores.specs.DelayCall.{answer_at, delay_call}
use Rattle.scores.specs.DelayCases.{DelayCases}

pub delay_cases : DelayCases
unfolding sum_ℤ score best lags_fit sample_fits delay_questions answer_at delay_call
delay_cases =
    record {
      scored = refl;
      last_lag = refl;
      other_way = refl;
      tie = refl;
      all_negative = refl;
      lowest_sample = refl;
      highest_sample = refl;
      below_32 = refl;
      above_32 = refl;
      unused_32 = refl;
      lengths_31 = refl;
      lag_64 = refl;
      lag_65_31 = refl;
      none_used_31 = refl;
      lag_above_31 = refl;
      no_sample_31 = refl;
      used_256 = refl;
      used_257_31 = refl;
      in_order_31 = refl;
    }
