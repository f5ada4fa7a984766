-- `delay` meets its contract: the words of the scoring contraction read as the scores, so their best lag is the scores' best.
-- Assumes nothing.
use mathlib.Core.Path.{sym, ap, ◌∙◌}
use native.Mathlib.Omega.{arith}
use Rattle.refusals.proofs.Numbers.{not_0, errs}
use Rattle.answers.specs.DelayAnswer.{lag_found, delay_answer}
use Rattle.scores.specs.Score.{signed_at}
use Rattle.scores.proofs.BestLag.{best_is}
use Rattle.scores.proofs.DelaySound.{delay_sound}
use Rattle.scores.proofs.DelayAnswered.{delay_refused_lem, best_found}
use Rattle.delay.proofs.call.delay.Goals as goal

pub returns-in_err-delay_refusal : goal.returns-in_err-delay_refusal
returns-in_err-delay_refusal c =
    ap delay_answer (errs c.from_residual.result c.from_residual.ensures.1)
    ∙ delay_refused_lem c.args.x.now c.args.y.now c.args.greatest_lag c.in_err-delay_refusal.ensures (not_0 c.in_err-delay_refusal.field-0.0)

pub best_lag-requires : goal.best_lag-requires
best_lag-requires c =
    (delay_sound c.args.x.now c.args.y.now c.args.greatest_lag (sym c.in_ok-delay_refusal.ensures)).few

pub found-requires : goal.found-requires
found-requires c =
    let few = (delay_sound c.args.x.now c.args.y.now c.args.greatest_lag (sym c.in_ok-delay_refusal.ensures)).few in
    omega (arith, c.best_lag.ensures, (best_is (signed_at c.scores-all.result) c.args.greatest_lag).among, few)

pub returns : goal.returns
returns c =
    (λ i. lag_found (c.found.ensures.0 i) (c.found.ensures.1 i))
    ∙ best_found c.args.x.now c.args.y.now c.args.greatest_lag (sym c.in_ok-delay_refusal.ensures)
    c.scores-all.ensures c.best_lag.ensures
