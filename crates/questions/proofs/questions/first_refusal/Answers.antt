-- `first_refusal` meets its contract: each tensor answers for itself, and the answers joined are those of all four.
-- Assumes nothing.
use Rattle.questions.proofs.AllAsked.{answers_for_c, joined}
use Rattle.questions.proofs.questions.first_refusal.Goals as goal

pub returns : goal.returns
returns c =
    let k = c.args.c.now in
    let n = c.args.n in
    let third = answers_for_c k n _ _ c.refusal_of_c-third.ensures c.own_refusal-d.ensures in
    joined k n c.own_refusal-a.ensures c.own_refusal-b.ensures third c.own_refusal-d.ensures c.both.ensures c.both-2.ensures c.both-3.ensures
