-- `add_scaled` meets its contract. The invariant: the sums are those that r turns leave.
use Rattle.std.proofs.Common.{refl}
use Rattle.words.specs.Loops.{each}
use Rattle.lanes.specs.LaneProducts.{scaled}
use Rattle.lanes.proofs.LaneTurns.{product_turn}
use Rattle.lanes.proofs.lanes.add_scaled.Goals as goal

pub loop-r-init : goal.loop-r-init
unfolding each
loop-r-init c = refl

pub loop-r-preserved : goal.loop-r-preserved
loop-r-preserved c =
    let s = c.args in
    let l = c.loop-r in
    product_turn (scaled s.x.now s.from s.by) s.sums.now l.r l.invariant c.add_at.ensures
