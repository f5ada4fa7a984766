-- `step_vector` meets its contract. The invariant: the words before the place stand at the front of the list, and `at` is the next one.
-- Assumes nothing.
use Rattle.std.proofs.Common.{ℕ, List, set, take, sym, refl, ap, ◌∙◌, arith, length-take}
use Rattle.words.specs.Stepped.{stepped}
use Rattle.words.proofs.Modular.{step_none, step_more}
use Rattle.words.proofs.Fronts.{front_none, front_set}
use Rattle.scatter.proofs.Vectors.{front_whole}
use Rattle.scatter.proofs.blocks.step_vector.Goals as goal

pub loop-place-init : goal.loop-place-init
loop-place-init c =
    let s = c.args in
    (sym (front_none (stepped s.start s.step) (take s.count s.out.now)), step_none s.step (omega arith))

pub loop-place-preserved : goal.loop-place-preserved
loop-place-preserved c =
    let l = c.loop-place in
    let s = c.args in (
      ap (λ (x : List ℕ). set x l.place-index l.at) l.invariant.0
          ∙ front_set (stepped s.start s.step) (take s.count s.out.now) l.place-index l.at (omega arith) l.invariant.1,
      step_more s.start s.step l.place-index l.invariant.1 refl,
    )

pub returns : goal.returns
returns c =
    let s = c.args in
    front_whole s.count (stepped s.start s.step) s.out.now c.requires (omega (arith, length-take s.count s.out.now)) c.loop-place.invariant.0
