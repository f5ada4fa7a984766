-- `add_lane_to_four` meets its contract. The invariant: each of the four sums is what r turns leave.
-- Assumes nothing.
use mathlib.Core.Path.{◌≡◌}
use Rattle.lanes.specs.LaneProducts.{products_added, scaled}
use Rattle.shared_lane.proofs.shared_lane.add_lane_to_four.Given as goal

abbrev pub invariant-loop-r : goal.invariant-loop-r
invariant-loop-r l =
    (l.s0 ≡ products_added l.r (scaled l.x l.from l.b0) l.initial.s0) × (l.s1 ≡ products_added l.r (scaled l.x l.from l.b1) l.initial.s1) × (l.s2 ≡ products_added l.r (scaled l.x l.from l.b2) l.initial.s2) × (l.s3 ≡ products_added l.r (scaled l.x l.from l.b3) l.initial.s3)
