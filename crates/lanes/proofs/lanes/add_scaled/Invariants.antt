-- `add_scaled` meets its contract. The invariant: the sums are those that r turns leave.
-- Assumes nothing.
use Rattle.std.proofs.Common.{◌≡◌}
use Rattle.lanes.specs.LaneProducts.{products_added, scaled}
use Rattle.lanes.proofs.lanes.add_scaled.Given as goal

abbrev pub invariant-loop-r : goal.invariant-loop-r
invariant-loop-r l = l.sums ≡ products_added l.r (scaled l.x l.from l.by) l.initial.sums
