-- `lane_by_lane` meets its contract. The invariant: the sums are those of the first d depth counts.
-- Assumes nothing.
use Rattle.kernel.proofs.Columns.{Summing, lane_sums}
use Rattle.kernel.proofs.kernel.lane_by_lane.Given as goal

abbrev pub invariant-loop-d : goal.invariant-loop-d
invariant-loop-d l = Summing l.count (lane_sums l.work l.base l.width l.from l.step l.d) l.sums
