-- The scores are exact: where questions 31 and 32 pass, a score is at most 256 products of 2 ^ 22, so that it is what D's word reads as.
-- Assumes nothing.
use mathlib.Core.Path.{◌≡◌}
use mathlib.Core.List.{List}
use Prim.Native.Nat.{ℕ, suc, ◌+◌, ◌-◌, ◌^◌, ◌≤◌}
use native.Mathlib.Nat.{mul-le-mul}
use native.Mathlib.Omega.{arith}
use lib.IntN.{nat_abs, ◌*ℤ◌}
use lib.ListN.{length, get_or}
use Rattle.limits.specs.Limits.{slice_limit}
use Rattle.scores.specs.Score.{signed_at, score}
use Rattle.scores.proofs.DelaySound.{DelaySound, delay_sound}
use Rattle.delay.specs.ExactScores.{AllWords, scored, ExactScores, EveryScoreExact}
use Rattle.delay.proofs.Congruent.{size_mul, stands_mul, stands_signed, stands_sum, size_sum, stands_read}
use Rattle.delay.proofs.ScoringAccepted.{Sized, call_is_done, score_word}

module _ (xs ys : List ℕ) (greatest : ℕ) (q : DelaySound xs ys greatest) where
  term_size : (lag t : ℕ) → nat_abs (signed_at xs (t + lag) *ℤ signed_at ys t) ≤ 2 ^ 22
  term_size lag t = rw (size_mul (signed_at xs (t + lag)) (signed_at ys t)) (mul-le-mul (q.in_x (t + lag)) (q.in_y t))

  score_size : (lag : ℕ) → nat_abs (score xs ys greatest lag) ≤ 2 ^ 30
  unfolding score
  score_size lag =
      omega (arith, size_sum (length xs - greatest) (2 ^ 22) (λ t. signed_at xs (t + lag) *ℤ signed_at ys t) (λ t h. term_size lag t), q.short)

  module _ (wx : AllWords xs) (wy : AllWords ys) (d : List ℕ) (room : suc greatest ≤ length d) (short : length d ≤ slice_limit) where
    sized : Sized (suc greatest) (length xs - greatest) xs ys d
    sized =
        record {
          some_lag = omega arith;
          few_lags = omega (arith, q.few);
          some_used = q.some;
          few_used = q.short;
          long_x = omega (arith, q.some);
          long_y = omega (arith, q.same_length);
          long_d = room;
          short_d = short;
        }

    score_exact : (lag : ℕ) → lag ≤ greatest → signed_at (scored xs ys greatest d).words lag ≡ score xs ys greatest lag
    unfolding score
    score_exact lag h =
        rw (score_word (suc greatest) (length xs - greatest) xs ys d sized lag (omega arith))
        (stands_read (score xs ys greatest lag)
        (stands_sum (length xs - greatest) (λ t i. stands_mul (stands_signed (get_or xs (t + lag) 0) (wx (t + lag))) (stands_signed (get_or ys t 0) (wy t))))
        (omega (arith, score_size lag)))

    exact : ExactScores xs ys greatest d
    exact =
        record {
          accepted = call_is_done (suc greatest) (length xs - greatest) xs ys d sized;
          exact = score_exact;
          small = λ lag h. score_size lag;
        }

pub exact_scores : EveryScoreExact
exact_scores xs ys greatest e = exact xs ys greatest (delay_sound xs ys greatest e)
