-- A loop over counts, on any state, and stores.
-- Assumes nothing.
use Rattle.std.specs.Prelude.{ℕ, zero, suc, ◌<◌, List, slice_index, slice_set}

-- `for k in 0..n { s = body k s }`
unfoldable pub each : {S : Type 0} → ℕ → (ℕ → S → S) → S → S
each zero body s = s
each (suc n) body s = body n (each n body s)

-- the word at `at` becomes g of it
unfoldable pub put : (ℕ → ℕ) → ℕ → List ℕ → List ℕ
put g at D = slice_set D at (g (slice_index D at))

-- for each count below n, its value v put at its place
abbrev pub overwrite : ℕ → (ℕ → ℕ) → (ℕ → ℕ) → List ℕ → List ℕ
overwrite n place v = each n (λ k. put (λ was. v k) (place k))

-- the place of each count below n is one of a list of `len` words
pub record Within (n : ℕ) (place : ℕ → ℕ) (len : ℕ) : Type 0 where
  pub each : (k : ℕ) → k < n → place k < len
