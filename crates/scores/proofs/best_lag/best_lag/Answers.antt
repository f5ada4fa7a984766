-- `best_lag` meets its contract. The loop's invariant: the lag is the best of those up to l.
-- Assumes nothing.
use mathlib.Core.Path.{refl, ◌∙◌}
use mathlib.Core.Bool.{true, false}
use native.Mathlib.Omega.{arith}
use Rattle.scores.specs.Score.{signed_at, best}
use Rattle.scores.proofs.BestLag.{best_next}
use Rattle.scores.proofs.best_lag.best_lag.Goals.{then-score_of, else-score_of}
use Rattle.scores.proofs.best_lag.best_lag.Goals as goal

pub loop-l-init : goal.loop-l-init
unfolding best
loop-l-init c = (omega arith, refl)

pub loop-l-preserved : goal.loop-l-preserved
loop-l-preserved c =
    let l = c.loop-l in
    let scores = c.args.scores.now in
    let a = c.score_of in
    let b = c.score_of-in-loop-l in
    elim c.if-score_of.branch [
      | then-score_of w ↦ (
        omega (arith, w.lag-is),
        w.lag-is ∙ best_next (signed_at scores) l.l l.lag a.result b.result a.type_inv b.type_inv l.invariant.1 a.ensures b.ensures true w.if-score_of.true,
      )
      | else-score_of w ↦ (
        omega (arith, w.lag-is, l.invariant.0),
        w.lag-is ∙ best_next (signed_at scores) l.l l.lag a.result b.result a.type_inv b.type_inv l.invariant.1 a.ensures b.ensures false w.if-score_of.false,
      )
    ]
