-- The questions before a delay call: 31, then 32.
-- Assumes nothing.
use Rattle.std.specs.Prelude.{ℕ, ◌-◌, Bool, ◌&&◌, List, [], ◌∷◌, eqb, leb, length}
use Rattle.std.specs.Int.Signed.{le_z}
use Rattle.words.specs.Sums.{every}
use Rattle.words.specs.Words.{signed}
use Rattle.limits.specs.Limits.{lag_limit, used_limit, least_sample, greatest_sample}
use Rattle.tensor_answers.specs.Asking.{Question, ask}

-- question 31, of recordings of n and m samples: are the lengths the same, is the greatest lag at most 64, and n less the greatest lag 1 to 256? (Where the
-- greatest lag is above n that difference is 0.)
unfoldable pub lags_fit : ℕ → ℕ → ℕ → Bool
lags_fit n m greatest = eqb n m && (leb greatest lag_limit && (leb 1 (n - greatest) && leb (n - greatest) used_limit))

-- question 32, of a word: is it, read as signed, from -2,048 to 2,047?
unfoldable pub sample_fits : ℕ → Bool
sample_fits x = le_z least_sample (signed 32 x) && le_z (signed 32 x) greatest_sample

-- 32 is put to every sample of both recordings, used by a score or not
unfoldable pub delay_questions : List ℕ → List ℕ → ℕ → List Question
delay_questions xs ys greatest =
    ask 31 (lags_fit (length xs) (length ys) greatest)
    ∷ ask 32 (every sample_fits xs && every sample_fits ys)
    ∷ []
