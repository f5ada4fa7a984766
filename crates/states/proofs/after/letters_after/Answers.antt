-- `letters_after` meets its contract: the plan and the grid are those of an accepted contraction, so the grid's cut is the contraction's, and each
-- place that the plan gives is the address.
-- Assumes nothing.
use mathlib.Core.Path.{◌≡◌, subst, ◌∙◌}
use Prim.Native.Nat.{ℕ}
use Rattle.std.specs.Prelude.{Result, Ok}
use Rattle.refusals.specs.declared.refusal.Refusal.{Refusal}
use Rattle.refusals.proofs.Numbers.{ok_where}
use Rattle.contraction.specs.declared.contraction.Contraction.{Contraction}
use Rattle.contraction.specs.Operands.{four}
use Rattle.contraction.specs.declared.contraction.Operand.{Operand}
use Rattle.tiles.specs.declared.grid.Sizes.{Sizes}
use Rattle.accept.specs.declared.accept.Accept.{Accept}
use Rattle.accept.specs.Accept.{PlannedIn, AcceptOf}
use Rattle.states.proofs.Lettering.{none_refused, all_tiles, all_placed, all_lettered}
use Rattle.states.proofs.after.letters_after.Goals as goal

-- what an accepted contraction starts from
planned : {c : Contraction} {z : Sizes} {n : Operand → ℕ} {r : Result Accept Refusal} {x : Accept} → AcceptOf c z n r → r ≡ Ok x → PlannedIn c z x
planned {c} {z} {n} f e = (subst (AcceptOf c z n) e f).planned

pub unwrap-x-requires : goal.unwrap-x-requires
unwrap-x-requires c =
    let x = c.args in
    ok_where c.of.result (none_refused x.k x.z (four x.a.now x.b.now x.c.now x.d.now) c.requires.0 c.of.ensures.number)

pub letter_batches-requires : goal.letter_batches-requires
letter_batches-requires c =
    let x = c.args in
    let r = c.unwrap-x in
    let w = four x.a.now x.b.now x.c.now x.d.now in
    let q = planned c.of.ensures r.ensures in
    (q.grid.0, all_placed x.k x.z w c.requires.0 r.result.plan q.plan r.result.grid q.grid _ (c.clear.auto.out ∙ c.requires.1))

pub returns : goal.returns
returns c =
    let x = c.args in
    let r = c.unwrap-x in
    let w = four x.a.now x.b.now x.c.now x.d.now in
    let q = planned c.of.ensures r.ensures in (
      all_tiles x.k x.z w c.requires.0 r.result.plan q.plan r.result.grid q.grid,
      all_lettered x.k x.z w c.requires.0 r.result.plan q.plan r.result.grid q.grid x.t _ c.requires.1 c.clear.ensures c.letter_batches.ensures,
    )
