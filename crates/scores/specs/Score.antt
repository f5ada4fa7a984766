-- The score of a lag between two recordings, a sum of whole numbers, and the lag with the greatest.
-- Assumes nothing.
use Rattle.std.specs.Prelude.{ℕ, zero, suc, ◌+◌, ◌-◌, cond, List, ℤ, ◌*ℤ◌, length, get_or}
use Rattle.std.specs.Int.Signed.{lt_z}
use Rattle.words.specs.Sums.{sum_ℤ}
use Rattle.words.specs.Words.{signed}

-- the word at a place, read as signed: of a recording its sample there
abbrev pub signed_at : List ℕ → ℕ → ℤ
signed_at xs t = signed 32 (get_or xs t 0)

-- the score of a lag: the sum of X[t + lag] × Y[t] for t from 0 to n - greatest - 1
unfoldable pub score : List ℕ → List ℕ → ℕ → ℕ → ℤ
score xs ys greatest lag = sum_ℤ (length xs - greatest) (λ t. signed_at xs (t + lag) *ℤ signed_at ys t)

-- of the lags 0 to n the one with the greatest score f, the smallest such lag on a tie: a later lag has to score more
unfoldable pub best : (ℕ → ℤ) → ℕ → ℕ
best f zero = 0
best f (suc n) = cond (lt_z (f (best f n)) (f (suc n))) (suc n) (best f n)
