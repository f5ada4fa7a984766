-- `side_by_side` meets its contract. The invariant: the sums are those of the first k depth counts.
-- Assumes nothing.
use Rattle.kernel.proofs.Columns.{Summing}
use Rattle.thin_sums.specs.LineSums.{line_sum}
use Rattle.thin_sums.proofs.line_sums.side_by_side.Given as goal

abbrev pub invariant-loop-k : goal.invariant-loop-k
invariant-loop-k l = let x = l.x in Summing x.block.now.count (line_sum x.src.now x.starts.now x.block.now.offsets l.line l.k) l.sums
