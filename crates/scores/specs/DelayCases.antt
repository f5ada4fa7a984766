-- Small cases of the delay call.
-- Assumes nothing.
use Rattle.std.specs.Prelude.{ℕ, ◌+◌, ◌≡◌, List, [], ◌∷◌, ℤ, pos, negsuc}
use Rattle.words.specs.Lists.{tabulate}
use Rattle.answers.specs.DelayAnswer.{DelayAnswer, lag_found, delay_refused}
use Rattle.scores.specs.Score.{score}
use Rattle.scores.specs.DelayCall.{delay_call}

-- -1, -2,048 and -2,049 as words
abbrev minus_one : ℕ
minus_one = 4294967295

abbrev lowest : ℕ
lowest = 4294965248

abbrev too_low : ℕ
too_low = 4294965247

-- a recording of n samples, each 0; the answer for two recordings of n and m such samples
abbrev silence : ℕ → List ℕ
silence n = tabulate n (λ i. 0)

abbrev of_lengths : ℕ → ℕ → ℕ → DelayAnswer
of_lengths n m greatest = delay_call (silence n) (silence m) greatest

abbrev later : List ℕ
later = 0 ∷ 0 ∷ 3 ∷ minus_one ∷ 2 ∷ []

abbrev sooner : List ℕ
sooner = 3 ∷ minus_one ∷ 2 ∷ 0 ∷ 0 ∷ []

abbrev scores : List ℕ → List ℕ → ℕ → List ℤ
scores xs ys greatest = tabulate (greatest + 1) (score xs ys greatest)

pub record DelayCases : Type 0 where
  -- "the score of lag l is the sum of X[t + l] × Y[t] for t from 0 to n - L - 1": X is Y two samples later
  pub scored : scores later sooner 2 ≡ pos 6 ∷ negsuc 4 ∷ pos 14 ∷ []
  -- "the lag 0 to L with the greatest score .. and the score"
  pub last_lag : delay_call later sooner 2 ≡ lag_found 2 (pos 14)
  pub other_way : delay_call sooner later 2 ≡ lag_found 0 (pos 6)
  -- "the smallest such lag on a tie": the scores are 0, 1 and 1
  pub tie : delay_call (0 ∷ 1 ∷ 1 ∷ []) (1 ∷ 1 ∷ 1 ∷ []) 2 ≡ lag_found 1 (pos 1)
  -- every score below 0: -2 and -1
  pub all_negative : delay_call (2 ∷ 1 ∷ []) (minus_one ∷ 0 ∷ []) 1 ≡ lag_found 1 (negsuc 0)
  -- "a sample is outside -2,048 to 2,047": both ends are samples, and what lies beyond each is not
  pub lowest_sample : delay_call (lowest ∷ []) (lowest ∷ []) 0 ≡ lag_found 0 (pos 4194304)
  pub highest_sample : delay_call (2047 ∷ []) (lowest ∷ []) 0 ≡ lag_found 0 (negsuc 4192255)
  pub below_32 : delay_call (too_low ∷ []) (0 ∷ []) 0 ≡ delay_refused 32
  pub above_32 : delay_call (0 ∷ []) (2048 ∷ []) 0 ≡ delay_refused 32
  -- one that no score uses: Y's last
  pub unused_32 : delay_call (0 ∷ 0 ∷ []) (0 ∷ 2048 ∷ []) 1 ≡ delay_refused 32
  -- "the lengths differ"
  pub lengths_31 : of_lengths 2 1 0 ≡ delay_refused 31
  -- "L is over 64"
  pub lag_64 : of_lengths 65 65 64 ≡ lag_found 0 (pos 0)
  pub lag_65_31 : of_lengths 66 66 65 ≡ delay_refused 31
  -- "n - L is not 1 to 256": 0, below 0, no sample at all; 256 and 257
  pub none_used_31 : of_lengths 1 1 1 ≡ delay_refused 31
  pub lag_above_31 : of_lengths 1 1 2 ≡ delay_refused 31
  pub no_sample_31 : of_lengths 0 0 0 ≡ delay_refused 31
  pub used_256 : of_lengths 256 256 0 ≡ lag_found 0 (pos 0)
  pub used_257_31 : of_lengths 257 257 0 ≡ delay_refused 31
  -- "Number 31 is asked first": the lengths differ, and a sample is outside
  pub in_order_31 : delay_call (0 ∷ 2048 ∷ []) (0 ∷ []) 0 ≡ delay_refused 31
