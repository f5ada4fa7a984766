-- `add_contiguous` meets its contract: each closure makes of a word what the panel makes of it.
-- Assumes nothing.
use Rattle.std.proofs.Common.{rules}
use Rattle.accumulate.specs.Added.{added_to}
use Rattle.contiguous.proofs.WithoutFactors.{by_beta, by_alpha, plain}
use Rattle.contiguous.proofs.contiguous.add_contiguous.Goals as goal

pub returns-in-1-eq1 : goal.returns-in-1-eq1
returns-in-1-eq1 c =
    let f = c.args.f in
    let one = c.in-1-eq1 in
    c.add_each.ensures (added_to f) (record { is = λ sum old v s o p. plain f c.unwrap_or.ensures sum old one.is-0 one.is-1 (search rules) })

pub returns-in_default-eq1 : goal.returns-in_default-eq1
returns-in_default-eq1 c =
    let f = c.args.f in
    c.add_each-in_default-eq1.ensures (added_to f) (record { is = λ sum old v s o p. by_alpha f c.unwrap_or.ensures sum old c.in_default-eq1.is-1 (search rules) })

pub returns-in-1-default : goal.returns-in-1-default
returns-in-1-default c =
    let f = c.args.f in
    c.add_each-in-1-default.ensures (added_to f) (record { is = λ sum old v s o p. by_beta f c.unwrap_or.ensures sum old c.in-1-default.is-0 (search rules) })

pub returns-in_default : goal.returns-in_default
returns-in_default c = c.add_each-in_default.ensures (added_to c.args.f) (record { is = λ sum old v s o p. search rules })
