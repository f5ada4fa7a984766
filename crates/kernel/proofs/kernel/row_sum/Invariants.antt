-- `row_sum` meets its contract. The invariant: the sum is the word of the sum over the first d depth counts.
-- Assumes nothing.
use Rattle.std.proofs.Common.{◌≡◌}
use Rattle.words.specs.Words.{word}
use Rattle.kernel.specs.Kernel.{column_sum}
use Rattle.kernel.proofs.kernel.row_sum.Given as goal

abbrev pub invariant-loop-d : goal.invariant-loop-d
invariant-loop-d l = let t = l.t in l.sum ≡ word 32 (column_sum t.work.now t.rows l.from t.cols l.d l.r)
