-- `add_stepped` meets its contract. The invariant: the address words are r steps from the first, and the sums are those that r turns leave.
use Rattle.std.proofs.Common.{refl}
use Rattle.words.specs.Loops.{each}
use Rattle.words.proofs.Modular.{step_none, step_more}
use Rattle.lanes.specs.LaneProducts.{products}
use Rattle.lanes.proofs.LaneTurns.{product_turn}
use Rattle.lanes.proofs.lanes.add_stepped.Goals as goal

pub loop-r-init : goal.loop-r-init
unfolding each
loop-r-init c =
    (step_none c.args.step_a c.ranges.from_a.fits, step_none c.args.step_b c.ranges.from_b.fits, refl)

pub loop-r-preserved : goal.loop-r-preserved
loop-r-preserved c =
    let s = c.args in
    let l = c.loop-r in (
      step_more s.from_a s.step_a l.r l.invariant.0 refl,
      step_more s.from_b s.step_b l.r l.invariant.1 refl,
      product_turn (products s.a.now s.from_a s.step_a s.b.now s.from_b s.step_b) s.sums.now l.r l.invariant.2 (rw (← l.invariant.0, ← l.invariant.1) c.add_at.ensures),
    )
