-- Sums of products along a run, by places. Inside contracts only.
-- Assumes nothing.
use Rattle.std.specs.Prelude.{ℕ, ◌*◌, List, length, slice_index}
use Rattle.words.specs.Sums.{sum_to}
use Rattle.words.specs.Loops.{Within}

-- Σ over the counts below n of a's word × b's word
unfoldable pub dot : ℕ → (ℕ → ℕ) → List ℕ → (ℕ → ℕ) → List ℕ → ℕ
dot n i a j b = sum_to n (λ k. slice_index a (i k) * slice_index b (j k))

-- along a run of n places in A and in B, all that is read is inside
pub record RunReadable (n : ℕ) (i j : ℕ → ℕ) (a b : List ℕ) : Type 0 where
  pub in_a : Within n i (length a)
  pub in_b : Within n j (length b)
