-- The sums of a column of a packed tile. Inside contracts only.
-- Assumes nothing.
use Rattle.std.specs.Prelude.{◌≡◌, ℕ, ◌+◌, ◌*◌, ◌<◌, List, slice_index}
use Rattle.words.specs.Sums.{sum_to}
use Rattle.words.specs.Words.{word}

-- Σ over depth of packed A's word at place r of the lane × packed B's word, which stand `cols` apart from `from` on
unfoldable pub column_sum : List ℕ → ℕ → ℕ → ℕ → ℕ → ℕ → ℕ
column_sum work rows from cols depth r = sum_to depth (λ d. slice_index work (rows * d + r) * slice_index work (from + cols * d))

-- the first `count` of the code's sums
pub record ColumnSums (count : ℕ) (f : ℕ → ℕ) (sums : List ℕ) : Type 0 where
  pub each : (r : ℕ) → r < count → slice_index sums r ≡ word 32 (f r)
