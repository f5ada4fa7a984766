-- `add_lane_to_four` meets its contract. The invariant: each of the four sums is what r turns leave.
use mathlib.Core.Path.{refl}
use Rattle.words.specs.Loops.{each}
use Rattle.lanes.specs.LaneProducts.{scaled}
use Rattle.lanes.proofs.LaneTurns.{product_turn}
use Rattle.shared_lane.proofs.shared_lane.add_lane_to_four.Goals as goal

pub loop-r-init : goal.loop-r-init
unfolding each
loop-r-init c = (refl, refl, refl, refl)

pub loop-r-preserved : goal.loop-r-preserved
loop-r-preserved c =
    let s = c.args in
    let l = c.loop-r in (
      product_turn (scaled s.x.now s.from s.b0) s.s0.now l.r l.invariant.0 c.add_at.ensures,
      product_turn (scaled s.x.now s.from s.b1) s.s1.now l.r l.invariant.1 c.add_at-in-loop-r.ensures,
      product_turn (scaled s.x.now s.from s.b2) s.s2.now l.r l.invariant.2 c.add_at-in-loop-r-2.ensures,
      product_turn (scaled s.x.now s.from s.b3) s.s3.now l.r l.invariant.3 c.add_at-in-loop-r-3.ensures,
    )
