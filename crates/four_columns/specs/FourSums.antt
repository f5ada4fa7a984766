-- The sums of four columns of a packed tile. Inside contracts only.
-- Assumes nothing.
use Rattle.std.specs.Prelude.{ℕ}
use Rattle.kernel.specs.Kernel.{ColumnSums}
use Rattle.four_columns.specs.declared.columns.Four.{Four}

-- and so for four columns
pub record FourSums (count : ℕ) (f : ℕ → ℕ → ℕ) (s : Four) : Type 0 where
  pub first : ColumnSums count (f 0) s.first
  pub second : ColumnSums count (f 1) s.second
  pub third : ColumnSums count (f 2) s.third
  pub fourth : ColumnSums count (f 3) s.fourth
