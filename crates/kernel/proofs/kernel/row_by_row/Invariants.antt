-- `row_by_row` meets its contract. The invariant: the first r sums are there.
-- Assumes nothing.
use Rattle.std.proofs.Common.{◌≡◌, length}
use Rattle.kernel.specs.Kernel.{column_sum, ColumnSums}
use Rattle.kernel.proofs.kernel.row_by_row.Given as goal

abbrev pub invariant-loop-r : goal.invariant-loop-r
invariant-loop-r l = let t = l.t in (length l.sums ≡ 64) × ColumnSums l.r (column_sum t.work.now t.rows l.from t.cols t.depth) l.sums
