-- `add_spread` meets its contract. The invariant: the address word is r steps from the first, and the sums are those that r turns leave.
use Rattle.std.proofs.Common.{refl}
use Rattle.words.specs.Loops.{each}
use Rattle.words.proofs.Modular.{step_none, step_more}
use Rattle.lanes.specs.LaneProducts.{spread}
use Rattle.lanes.proofs.LaneTurns.{product_turn}
use Rattle.lanes.proofs.lanes.add_spread.Goals as goal

pub loop-r-init : goal.loop-r-init
unfolding each
loop-r-init c = (step_none c.args.step c.ranges.from.fits, refl)

pub loop-r-preserved : goal.loop-r-preserved
loop-r-preserved c =
    let s = c.args in
    let l = c.loop-r in (
      step_more s.from s.step l.r l.invariant.0 refl,
      product_turn (spread s.x.now s.from s.step s.by) s.sums.now l.r l.invariant.1 (rw (← l.invariant.0) c.add_at.ensures),
    )
