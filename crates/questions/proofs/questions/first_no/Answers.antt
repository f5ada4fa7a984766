-- `first_no` meets its contract: where none of questions 1 to 5 fails, the lists hold the axes, and the later questions are asked.
-- Assumes nothing.
use Rattle.contraction.specs.declared.contraction.Operand.TheVariants.{A, B, D}
use Rattle.questions.proofs.AllAsked.{each_own, own_of_c, left_for_c, ready, within, first_refuses, later_asked, refused}
use Rattle.questions.proofs.questions.first_no.Goals as goal

pub returns-in_err-first_refusal : goal.returns-in_err-first_refusal
returns-in_err-first_refusal c =
    let k = c.args.c.now in
    let n = c.args.n in
    let e = c.in_err-first_refusal.field-0.0 in
    refused k n e c.from_residual.result c.from_residual.ensures.1 (first_refuses k n e c.in_err-first_refusal.ensures)

pub left_by-a-requires : goal.left_by-a-requires
left_by-a-requires c = each_own c.args.c.now c.args.n c.in_ok-first_refusal.ensures A

pub left_by-b-requires : goal.left_by-b-requires
left_by-b-requires c = each_own c.args.c.now c.args.n c.in_ok-first_refusal.ensures B

pub left_by-d-requires : goal.left_by-d-requires
left_by-d-requires c = each_own c.args.c.now c.args.n c.in_ok-first_refusal.ensures D

pub left_by_c-third-requires : goal.left_by_c-third-requires
left_by_c-third-requires c = own_of_c c.args.c.now c.args.n c.in_ok-first_refusal.ensures

pub later_refusal-requires : goal.later_refusal-requires
later_refusal-requires c =
    let k = c.args.c.now in
    let n = c.args.n in
    let third = left_for_c k n c.left_by_c-third.ensures c.left_by-d.ensures in (
      ready k n c.left_by-a.ensures c.left_by-b.ensures third c.left_by-d.ensures c.is_some.ensures c.then_some-named.ensures c.of-lists.ensures,
      within k n c.left_by-a.ensures c.left_by-b.ensures third c.left_by-d.ensures,
    )

pub returns-in_err-later_refusal : goal.returns-in_err-later_refusal
returns-in_err-later_refusal c =
    let k = c.args.c.now in
    let n = c.args.n in
    refused k n c.in_err-later_refusal.field-0.0 c.from_residual-in_err-later_refusal.result c.from_residual-in_err-later_refusal.ensures.1
    (later_asked k n c.in_ok-first_refusal.ensures c.in_err-later_refusal.ensures)

pub returns : goal.returns
returns c =
    let k = c.args.c.now in
    let n = c.args.n in
    let third = left_for_c k n c.left_by_c-third.ensures c.left_by-d.ensures in
    let lists = ready k n c.left_by-a.ensures c.left_by-b.ensures third c.left_by-d.ensures c.is_some.ensures c.then_some-named.ensures c.of-lists.ensures in
    record { number = later_asked k n c.in_ok-first_refusal.ensures c.in_ok-later_refusal.ensures; lists = lists }
