-- What is known once questions 31 and 32 passed.
-- Assumes nothing.
use mathlib.Core.Path.{◌≡◌}
use mathlib.Core.Bool.{Bool, true, ◌&&◌}
use mathlib.Core.List.{List, [], ◌∷◌}
use Prim.Native.Nat.{ℕ, zero, suc, ◌-◌, ◌≤◌}
use native.Mathlib.Omega.{arith}
use lib.IntN.{ℤ, pos, negsuc, nat_abs}
use lib.Dec.{T, eqb, leb, eqb→eq, leb→le}
use lib.ListN.{length, get_or}
use lib.Signed.{le_z}
use Rattle.words.specs.Sums.{every}
use Rattle.words.proofs.Sums.{and_split}
use Rattle.limits.specs.Limits.{lag_limit, used_limit, least_sample, greatest_sample}
use Rattle.tensor_answers.proofs.Refusal.{passed}
use Rattle.scores.specs.Score.{signed_at}
use Rattle.scores.specs.DelayQuestions.{lags_fit, sample_fits, delay_questions}
use Rattle.scores.specs.GreatestScore.{DelayAccepted}

-- a test that every member passes, and 0, passes at every place
every_at : (p : ℕ → Bool) (xs : List ℕ) → T (every p xs) → T (p 0) → (t : ℕ) → T (p (get_or xs t 0))
every_at p [] h z t = z
every_at p (x ∷ xs) h z zero = (and_split (p x) (every p xs) h).0
every_at p (x ∷ xs) h z (suc t) = every_at p xs (and_split (p x) (every p xs) h).1 z t

size_fits : (z : ℤ) → T (le_z least_sample z && le_z z greatest_sample) → nat_abs z ≤ 2048
size_fits (pos n) h = omega (arith, leb→le n 2047 h)
size_fits (negsuc n) h = omega (arith, leb→le n 2047 (and_split (leb n 2047) true h).0)

sample_size : (xs : List ℕ) → T (every sample_fits xs) → (t : ℕ) → nat_abs (signed_at xs t) ≤ 2048
unfolding sample_fits
sample_size xs h t = size_fits (signed_at xs t) (every_at sample_fits xs h tt t)

pub record DelaySound (xs ys : List ℕ) (greatest : ℕ) : Type 0 where
  pub same_length : length xs ≡ length ys
  pub few : greatest ≤ lag_limit
  pub some : 1 ≤ length xs - greatest
  pub short : length xs - greatest ≤ used_limit
  pub in_x : (t : ℕ) → nat_abs (signed_at xs t) ≤ 2048
  pub in_y : (t : ℕ) → nat_abs (signed_at ys t) ≤ 2048

pub delay_sound : (xs ys : List ℕ) (greatest : ℕ) → DelayAccepted xs ys greatest → DelaySound xs ys greatest
unfolding delay_questions lags_fit
delay_sound xs ys greatest e =
    let n = length xs in
    let m = length ys in
    let p = passed (delay_questions xs ys greatest) tt e in
    let a = and_split (eqb n m) (leb greatest lag_limit && (leb 1 (n - greatest) && leb (n - greatest) used_limit)) (rw p.0 tt) in
    let b = and_split (leb greatest lag_limit) (leb 1 (n - greatest) && leb (n - greatest) used_limit) a.1 in
    let c = and_split (leb 1 (n - greatest)) (leb (n - greatest) used_limit) b.1 in
    let s = and_split (every sample_fits xs) (every sample_fits ys) (rw p.1.0 tt) in
    record {
      same_length = eqb→eq n m a.0;
      few = leb→le greatest lag_limit b.0;
      some = leb→le 1 (n - greatest) c.0;
      short = leb→le (n - greatest) used_limit c.1;
      in_x = sample_size xs s.0;
      in_y = sample_size ys s.1;
    }
