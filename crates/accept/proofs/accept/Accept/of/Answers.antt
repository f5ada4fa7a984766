-- `Accept::of` meets its contract: the questions are those of `accepted`, whose lists the plan is made of.
-- Assumes nothing.
use mathlib.Core.Path.{sym, subst}
use Rattle.refusals.proofs.Numbers.{errs}
use Rattle.contraction.specs.Operands.{lengths}
use Rattle.accept.specs.Accept.{AcceptOf}
use Rattle.accept.proofs.accept.Accept.of.Goals as goal

pub returns-in_err-lists : goal.returns-in_err-lists
returns-in_err-lists c =
    let a = c.args in
    subst (AcceptOf a.c a.z (lengths a.c a.n)) (sym (errs c.from_residual.result c.from_residual.ensures.1))
    (record { number = c.in_err-lists.ensures.number; planned = tt })

pub returns : goal.returns
returns c = record { number = c.in_ok-lists.ensures.number; planned = c.from_lists.ensures }
