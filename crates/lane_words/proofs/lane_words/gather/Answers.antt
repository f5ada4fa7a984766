-- `gather` meets its contract: a turn stores one word more and takes a step.
-- Assumes nothing.
use Rattle.std.proofs.Common.{ℕ, get_or, sym, refl, ap, arith, length-set}
use Rattle.words.proofs.Fronts.{stored_none, stored_set}
use Rattle.words.specs.Stepped.{stepped}
use Rattle.words.proofs.Modular.{step_none, step_more}
use Rattle.lane_words.proofs.lane_words.gather.Goals as goal

pub loop-k-init : goal.loop-k-init
loop-k-init c =
    (refl, step_none {x = c.args.at} c.args.step (omega (arith, c.ranges.at)), sym (stored_none (λ j. get_or c.args.src.now (stepped c.args.at c.args.step j) 0) c.args.to c.args.out.now))

pub loop-k-preserved : goal.loop-k-preserved
loop-k-preserved c =
    let l = c.loop-k in
    let s = c.args in (
      simp length-set l.invariant.0,
      step_more s.at s.step l.k l.invariant.1 refl,
      stored_set l.k (λ j. get_or s.src.now (stepped s.at s.step j) 0) s.to s.out.now l.invariant.2 (ap (λ (p : ℕ). get_or s.src.now p 0) l.invariant.1),
    )
