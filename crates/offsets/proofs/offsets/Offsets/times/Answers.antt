-- `Offsets::times` meets its contract. The invariant: at the places of the first o tensors stand the products, which wrap.
-- Assumes nothing.
use Rattle.std.proofs.Common.{◌≡◌, sym, refl, arith}
use Rattle.words.proofs.Fronts.{front_none}
use Rattle.contraction.specs.TensorPlaces.{tensor_count}
use Rattle.offsets.proofs.OffsetPlaces.{next_place, by_places}
use Rattle.offsets.proofs.offsets.Offsets.times.Invariants.{times_at}
use Rattle.offsets.proofs.offsets.Offsets.times.Goals as goal

pub loop-o-init : goal.loop-o-init
loop-o-init c = sym (front_none (times_at c.args.n c.args.self) _)

pub loop-o-preserved : goal.loop-o-preserved
loop-o-preserved c = next_place (times_at c.args.n c.args.self) _ (omega arith) c.loop-o.invariant c.scale.ensures

pub returns : goal.returns
returns c =
    let l = c.loop-o in
    let z : l.o ≡ tensor_count = omega arith in
    by_places (times_at c.args.n c.args.self) _ _ (rw z at l.invariant) (λ o. refl)
