-- `add_by_step` meets its contract. The invariant: the place is k steps past the first, and D's words are those that k turns leave. A turn makes one word more and takes a
-- step.
use Rattle.std.proofs.Common.{◌+◌, get_or, refl, arith, length-set}
use Rattle.words.specs.Loops.{each}
use Rattle.accumulate.specs.Added.{added_to}
use Rattle.words.specs.Stepped.{stepped}
use Rattle.words.proofs.Modular.{step_none, step_more}
use Rattle.words.proofs.Store.{put_next}
use Rattle.accumulate.proofs.accumulate.add_by_step.Goals as goal

pub loop-k-init : goal.loop-k-init
unfolding each
loop-k-init c = (refl, step_none {x = c.args.at} c.args.step (omega (arith, c.ranges.at)), refl)

pub loop-k-preserved : goal.loop-k-preserved
loop-k-preserved c =
    let s = c.args in
    let l = c.loop-k in (
      simp length-set l.invariant.0,
      step_more s.at s.step l.k l.invariant.1 refl,
      put_next (λ j. added_to s.f (get_or s.sums.now (s.r + j) 0)) (stepped s.at s.step) s.d.now l.k l.invariant.2 l.invariant.1 c.added.ensures,
    )
