-- What a closure makes of a word of D. Inside contracts only.
-- Assumes nothing.
use Rattle.std.specs.Prelude.{◌≡◌, ℕ, ◌^◌, ◌<◌}

-- of a sum and an old word, both words, the closure that ends in the results that P tells of makes `change`
pub record Makes (P : ℕ → ℕ → ℕ → Type 0) (change : ℕ → ℕ → ℕ) : Type 0 where
  pub is : (sum w v : ℕ) → sum < 2 ^ 32 → w < 2 ^ 32 → P sum w v → v ≡ change sum w
