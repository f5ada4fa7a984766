-- `offset_along` meets its contract. The loop goes from the first label to the last, as `offset_in` does; its invariant: `at` is the offset of the
-- labels done, and a count of the labels that are left is still to be added.
-- Assumes nothing.
use Rattle.std.proofs.Common.{refl, arith}
use Rattle.counts.proofs.CountWords.{offsets_start, extent_at, turn, offsets_end}
use Rattle.counts.proofs.counts.offset_along.Goals as goal

pub loop-l-init : goal.loop-l-init
loop-l-init c = offsets_start c.args.o c.labels-l-items.result.now c.args.n c.labels-l-items.ensures.1 c.requires.1

pub nonzero_rem-rest : goal.nonzero_rem-rest
nonzero_rem-rest c = extent_at c.args.o c.labels-l-items.result.now c.loop-l.l-index (omega arith) c.loop-l.invariant

pub nonzero_div-rest : goal.nonzero_div-rest
nonzero_div-rest c = extent_at c.args.o c.labels-l-items.result.now c.loop-l.l-index (omega arith) c.loop-l.invariant

pub loop-l-preserved : goal.loop-l-preserved
loop-l-preserved c =
    let l = c.loop-l in
    let xs = c.labels-l-items.result.now in
    turn c.args.o xs l.l-index (omega arith) l.invariant c.moved-at.result _ (rw c.stride.ensures at c.moved-at.ensures) refl

pub returns : goal.returns
returns c = offsets_end c.args.o c.labels-l-items.result.now c.loop-l.l-index (omega arith) c.loop-l.invariant
