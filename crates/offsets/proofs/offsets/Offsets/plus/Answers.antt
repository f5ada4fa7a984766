-- `Offsets::plus` meets its contract. The invariant: at the places of the first o tensors stand the sums, which wrap.
-- Assumes nothing.
use Rattle.std.proofs.Common.{◌≡◌, sym, refl, arith}
use Rattle.words.proofs.Fronts.{front_none}
use Rattle.contraction.specs.TensorPlaces.{tensor_count}
use Rattle.offsets.proofs.OffsetPlaces.{next_place, by_places}
use Rattle.offsets.proofs.offsets.Offsets.plus.Invariants.{sum_at}
use Rattle.offsets.proofs.offsets.Offsets.plus.Goals as goal

pub loop-o-init : goal.loop-o-init
loop-o-init c = sym (front_none (sum_at c.args.self c.args.by) _)

pub loop-o-preserved : goal.loop-o-preserved
loop-o-preserved c = next_place (sum_at c.args.self c.args.by) _ (omega arith) c.loop-o.invariant refl

pub returns : goal.returns
returns c =
    let l = c.loop-o in
    let z : l.o ≡ tensor_count = omega arith in
    by_places (sum_at c.args.self c.args.by) _ _ (rw z at l.invariant) (λ o. refl)
