-- `four_columns` meets its contract. The invariant: each column's sums are those of the first d depth counts.
-- Assumes nothing.
use Rattle.std.proofs.Common.{◌+◌}
use Rattle.kernel.proofs.Columns.{Summed}
use Rattle.four_columns.proofs.columns.four_columns.Given as goal

abbrev pub invariant-loop-d : goal.invariant-loop-d
invariant-loop-d l =
    let t = l.t in
    Summed t.work.now t.rows l.count (l.from + 0) t.cols l.d l.s.first × Summed t.work.now t.rows l.count (l.from + 1) t.cols l.d l.s.second
    × Summed t.work.now t.rows l.count (l.from + 2) t.cols l.d l.s.third × Summed t.work.now t.rows l.count (l.from + 3) t.cols l.d l.s.fourth
