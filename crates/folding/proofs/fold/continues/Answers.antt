-- `continues` meets its contract. The invariant: what was asked of the first o tensors, and `follows` of those from o on, is `follows` of all.
-- Assumes nothing.
use native.Mathlib.Omega.{arith}
use Rattle.contraction.specs.TensorPlaces.{operand_at}
use Rattle.contraction.proofs.TensorPlaces.{at_place}
use Rattle.folding.proofs.fold.continues.Goals as goal

pub follows-all-requires : goal.follows-all-requires
follows-all-requires c =
    let o = c.loop-o.o in
    rw (at_place c.args.p.strides o (omega arith)) at (c.requires.strides (operand_at o))
