-- `letter_columns` meets its contract. The invariant: the words are those that the first j turns leave.
-- Assumes nothing.
use Rattle.std.proofs.Common.{sym, subst, arith}
use Rattle.letters.specs.Placed.{Placed}
use Rattle.letters.proofs.LetterLoops.{turns_none, turns_next, turns_all}
use Rattle.letters.proofs.letters.letter_columns.Goals as goal

pub loop-j-init : goal.loop-j-init
loop-j-init c = turns_none _ _

pub letter_rows-requires : goal.letter_rows-requires
letter_rows-requires c =
    let q = c.requires in
    let l = c.loop-j in
    (q.0, subst (Placed _ _) (sym l.invariant.kept) q.1, q.2, omega arith)

pub loop-j-preserved : goal.loop-j-preserved
loop-j-preserved c =
    let f = c.letter_rows in
    turns_next c.loop-j.invariant f.auto.out f.ensures

pub shape_of-out : goal.shape_of-out
shape_of-out c = c.loop-j.invariant.kept

pub returns : goal.returns
returns c = turns_all c.loop-j.invariant (omega arith)
