-- `fill_run` meets its contract. The invariant: the addresses are v steps from the first, and the words of D are those that v turns leave.
-- A turn adds the step once more, and stores what `filled` stores: to reduce the sum to a word first changes nothing.
-- Assumes nothing.
use mathlib.Core.Path.{◌≡◌, refl, ap, sym, ◌∙◌, subst, fun_ext}
use mathlib.Core.Bool.{Bool, true}
use mathlib.Core.List.{List}
use Prim.Native.Nat.{ℕ, ◌+◌, ◌^◌, ◌<◌}
use native.Mathlib.Numerals.{add-one}
use native.Mathlib.Omega.{arith}
use lib.ListN.{length, get_or, set, length-set}
use Rattle.words.specs.Words.{word}
use Rattle.words.specs.Loops.{each, put}
use Rattle.contraction.specs.declared.contraction.Operand.{Operand}
use Rattle.contraction.specs.declared.contraction.Operand.TheVariants.{C, D}
use Rattle.contraction.specs.TensorPlaces.{operand_number}
use Rattle.groups.specs.Groups.{Label}
use Rattle.groups.specs.Held.{labels_in}
use Rattle.offsets.specs.declared.offsets.Offsets.{Offsets}
use Rattle.offsets.specs.Offsets.{words_in, Words}
use Rattle.offsets.proofs.OwnedWords.{words_fit}
use Rattle.meaning.specs.Meaning.{start_of, combined}
use Rattle.output_words.proofs.CombinedWords.{combined_word}
use Rattle.sums.specs.Walk.{steps, sum_from, Readable}
use Rattle.output_run.specs.FilledOutput.{filled, Clear}
use Rattle.output_run.proofs.output_run.fill_run.Goals as goal

-- no step, and one more
at_first : (from step : Offsets) → ((k : ℕ) → get_or from.words k 0 < 2 ^ 64) → words_in from ≡ steps from step 0
at_first from step h = fun_ext (λ o. omega (arith, h (operand_number o)))

at_next : (from step at r : Offsets) (v : ℕ) → words_in at ≡ steps from step v → Words r (λ o. words_in at o + words_in step o)
    → words_in r ≡ steps from step (v + 1)
at_next from step at r v e w = fun_ext (λ o. same o (ap (λ (f : Operand → ℕ). f o) e))
  where
    same : (o : Operand) → words_in at o ≡ steps from step v o → words_in r o ≡ steps from step (v + 1) o
    same o f = omega (arith, w.each o)

-- D's words after v turns, and after one more
module _ (named : Bool) (alpha beta : ℕ) (g : List Label) (a b c : List ℕ) (to : ℕ → Operand → ℕ) where
  abbrev fills : ℕ → List ℕ → List ℕ
  fills v d₀ = each v (λ n. filled named alpha beta g a b c (to n)) d₀

  turn : (at : Operand → ℕ) (v sum start r : ℕ) (d d₀ : List ℕ) → at ≡ to v → d ≡ fills v d₀
      → sum ≡ word 32 (sum_from g a b at) → start ≡ start_of named (get_or c (at C) 0) (get_or d (at D) 0) → r ≡ combined alpha beta sum start → set d (at D) r ≡ fills (v + 1) d₀
  unfolding each put filled
  turn at v sum start r d d₀ p e s h q =
      let from = start_of named (get_or c (at C) 0) (get_or d (at D) 0) in
      let f : r ≡ combined alpha beta (sum_from g a b at) from
      = q ∙ ap (λ (x : ℕ). combined alpha beta x start) s ∙ combined_word alpha beta (sum_from g a b at) start ∙ ap (combined alpha beta (sum_from g a b at)) h in
      rw (add-one, ← e, ← p, f)

-- the place that is written
inside : {named : Bool} {n v len : ℕ} {to : ℕ → Operand → ℕ} {at : Operand → ℕ} {g : List Label} {a b c : List ℕ}
    → Clear named n to g a b c len → at ≡ to v → v < n → at D < len
inside {v} {len} c e h = subst (λ (f : Operand → ℕ). f D < len) (sym e) (c.writes.each v h)

-- and the one that is read of C
c_inside : {named : Bool} {n v len : ℕ} {to : ℕ → Operand → ℕ} {at : Operand → ℕ} {g : List Label} {a b c : List ℕ}
    → Clear named n to g a b c len → at ≡ to v → v < n → named ≡ true → at C < length c
c_inside {v} {c} k e h n = subst (λ (f : Operand → ℕ). f C < length c) (sym e) ((k.starts n).each v h)

pub loop-v-init : goal.loop-v-init
unfolding each
loop-v-init c =
    (refl, at_first c.args.run.from c.args.run.step (words_fit c.args.run.from.words _ c.well_formed.1.1.0.1.1.0.1.1.0.1.1), refl)

pub depth_sum-sum-requires : goal.depth_sum-sum-requires
depth_sum-sum-requires c =
    let l = c.loop-v in
    subst (Readable (labels_in c.args.depth.now.walk.group.now) c.args.x.now.a.now c.args.x.now.b.now) (sym l.invariant.1) (c.requires.reads l._v (omega arith))

pub offset_bounds-d-place : goal.offset_bounds-d-place
offset_bounds-d-place c =
    let l = c.loop-v in
    let h : words_in l.at D < length c.args.d.now = inside c.requires l.invariant.1 (omega arith) in
    omega arith

pub bounds-d-place : goal.bounds-d-place
bounds-d-place c =
    let l = c.loop-v in
    let h : words_in l.at D < length c.args.d.now = inside c.requires l.invariant.1 (omega arith) in
    omega arith

pub start_of-start-requires : goal.start_of-start-requires
start_of-start-requires c =
    let l = c.loop-v in
    rw c.of.ensures (c_inside c.requires l.invariant.1 (omega arith))

pub offset_bounds-d-place-in-loop-v : goal.offset_bounds-d-place-in-loop-v
offset_bounds-d-place-in-loop-v c =
    let l = c.loop-v in
    let h : words_in l.at D < length c.args.d.now = inside c.requires l.invariant.1 (omega arith) in
    omega arith

pub bounds-d-place-in-loop-v : goal.bounds-d-place-in-loop-v
bounds-d-place-in-loop-v c =
    let l = c.loop-v in
    let h : words_in l.at D < length c.args.d.now = inside c.requires l.invariant.1 (omega arith) in
    omega arith

pub loop-v-preserved : goal.loop-v-preserved
loop-v-preserved c =
    let l = c.loop-v in (
      simp length-set l.invariant.0,
      at_next c.args.run.from c.args.run.step l.at c.plus-at.result l._v l.invariant.1 c.plus-at.ensures,
      rw c.of-place.ensures
          (turn _ _ _ _ _ _ _ (steps c.args.run.from c.args.run.step) _ _ _ _ _ _ _ l.invariant.1 l.invariant.2 c.depth_sum-sum.ensures
          (rw (c.of-place.ensures, c.of.ensures) at c.start_of-start.ensures) c.combine.ensures),
    )

pub returns : goal.returns
returns c =
    let l = c.loop-v in
    let e : l._v ≡ c.args.run.len = omega arith in
    rw e at l.invariant.2
