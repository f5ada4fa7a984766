-- `put_call` meets its contract: the text that is put is the one of what `run` of the tiled engine answered; D's slice keeps its length, so its letters are those of D before.
-- Assumes nothing.
use mathlib.Core.Path.{sym, ap, ◌∙◌, subst}
use Prim.Native.Nat.{ℕ, ◌≤◌}
use Rattle.limits.specs.Limits.{job_limit}
use Rattle.report.specs.Text.{refused_text}
use Rattle.report.proofs.Written.{put_as}
use Rattle.job_call.proofs.Answering.{ran_asks, ran_text, refused_text_lem}
use Rattle.job_call.proofs.answer.put_call.Goals as goal

pub put_ran-requires : goal.put_ran-requires
put_ran-requires c =
    let x = c.args in
    let kept = c.run-outcome.auto.d in (
      ran_asks x.k x.z x.a.now x.b.now x.c.now x.d.now x.done x.budget c.run-outcome.ensures c.in-Ok.is kept,
      subst (λ (n : ℕ). n ≤ job_limit) (sym kept) c.requires.0,
      c.requires.1,
    )

pub returns-in-Ok : goal.returns-in-Ok
returns-in-Ok c =
    let x = c.args in
    put_as x.out.now
    (ran_text x.k x.z x.a.now x.b.now x.c.now x.d.now x.done x.budget c.run-outcome.ensures c.in-Ok.is c.run-outcome.auto.d)
    c.put_ran.ensures

pub returns-in-Err : goal.returns-in-Err
returns-in-Err c =
    let x = c.args in
    put_as x.out.now
    (ap refused_text c.from.ensures ∙ refused_text_lem x.k x.z x.a.now x.b.now x.c.now x.d.now x.done x.budget c.run-outcome.ensures c.in-Err.is)
    c.put_refused.ensures
