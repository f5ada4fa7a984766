-- `letter_batches` meets its contract. The invariant: the words are those that the first h turns leave. Without a tile there is
-- no output index, so that all turns would leave the words as they are.
-- Assumes nothing.
use Rattle.std.proofs.Common.{sym, subst, arith}
use Rattle.letters.specs.Placed.{Placed}
use Rattle.letters.proofs.LetterLoops.{turns_none, turns_next, turns_all, no_letters}
use Rattle.letters.proofs.letters.letter_batches.Goals as goal

pub loop-h-init : goal.loop-h-init
loop-h-init c = turns_none _ _

pub letter_columns-requires : goal.letter_columns-requires
letter_columns-requires c =
    let l = c.loop-h in
    (c.requires.0, subst (Placed _ _) (sym l.invariant.kept) c.requires.1, omega arith)

pub loop-h-preserved : goal.loop-h-preserved
loop-h-preserved c =
    let f = c.letter_columns in
    turns_next c.loop-h.invariant f.auto.out f.ensures

pub shape_of-out : goal.shape_of-out
shape_of-out c = c.loop-h.invariant.kept

pub returns-then-g-eq0 : goal.returns-then-g-eq0
returns-then-g-eq0 c = sym (no_letters c.requires.0 c.args.t c.if-g-eq0.true c.args.out.now)

pub returns : goal.returns
returns c = turns_all c.loop-h.invariant (omega arith)
