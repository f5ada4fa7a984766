-- `Operands::of` meets its contract: A's letters behind D's, then B's, then C's.
-- Assumes nothing.
use mathlib.Core.Path.{◌≡◌, refl, subst, ◌∙◌}
use mathlib.Core.List.{List, ◌++◌, append_assoc}
use Rattle.std.specs.Prelude.{Option, None, Some, unwrap_or, MatchOption}
use native.Mathlib.Omega.{arith}
use Rattle.layout.specs.declared.layout.Axis.{Axis}
use Rattle.layout.specs.Listed.{listed}
use Rattle.labels.specs.Labels.{labels}
use Rattle.labels.specs.declared.labelled.Labelled.{Labelled}
use Rattle.labels.specs.declared.letter_sets.Letters.{Letters}
use Rattle.labels.specs.LetterSets.{Spells}
use Rattle.labels.proofs.Spelling.{spells_itself}
use Rattle.contraction.specs.Operands.{four, together}
use Rattle.contraction.specs.declared.contraction.Operand.TheVariants.{A, B, C, D}
use Rattle.contraction.proofs.Again.{labels_again}
use Rattle.contraction.proofs.operands.Operands.of.Goals as goal

-- where C is not named, D stands behind the others once more
behind : (o : Option Labelled) (d : Labelled) (a b : List Axis) (s r : Letters) → Spells s (labels ((listed d.axes ++ a) ++ b))
    → MatchOption o (r ≡ s) (λ l. (xs : List Axis) → Spells s (labels xs) → Spells r (labels (xs ++ listed l.axes)))
    → Spells r (labels (listed d.axes ++ (a ++ (b ++ listed (unwrap_or o d).axes))))
behind o d a b s r h f =
    subst (λ (xs : List Axis). Spells r (labels xs)) (append_assoc (z ++ a) b (y o) ∙ append_assoc z a (b ++ y o)) (go o f)
  where
    z : List Axis
    z = listed d.axes

    y : Option Labelled → List Axis
    y o = listed (unwrap_or o d).axes

    go : (o : Option Labelled) → MatchOption o (r ≡ s) (λ l. (xs : List Axis) → Spells s (labels xs) → Spells r (labels (xs ++ listed l.axes)))
        → Spells r (labels (((z ++ a) ++ b) ++ y o))
    go (Some l) f = f ((z ++ a) ++ b) h
    go None e = rw (e, append_assoc z a b, labels_again z (a ++ b), ← append_assoc z a b) h

pub with_axes-requires : goal.with_axes-requires
with_axes-requires c =
    let x = c.args in
    let d = x.d.lettered in
    (spells_itself x.d.letters _ d.spells, x.a.lettered.checked, omega (arith, d.few))

pub with_axes-letters-requires : goal.with_axes-letters-requires
with_axes-letters-requires c =
    let x = c.args in
    let d = x.d.lettered in (
      spells_itself c.with_axes.result _ (c.with_axes.ensures.0 _ d.spells),
      x.b.lettered.checked,
      omega (arith, c.with_axes.ensures.1, d.few, x.a.lettered.checked.few),
    )

pub letters_with_c-requires : goal.letters_with_c-requires
letters_with_c-requires c =
    let x = c.args in
    let d = x.d.lettered in (
      spells_itself c.with_axes-letters.result _ (c.with_axes-letters.ensures.0 _ (c.with_axes.ensures.0 _ d.spells)),
      omega (arith, c.with_axes-letters.ensures.1, c.with_axes.ensures.1, d.few, x.a.lettered.checked.few, x.b.lettered.checked.few),
    )

pub invariant_of-result : goal.invariant_of-result
unfolding together
invariant_of-result c =
    let x = c.args in
    record {
      gathered =
          record {
            each = λ o. (four x.a x.b (unwrap_or x.c x.d) x.d o).lettered;
            all =
                behind x.c x.d (listed x.a.axes) (listed x.b.axes) c.with_axes-letters.result c.letters_with_c.result
                (c.with_axes-letters.ensures.0 _ (c.with_axes.ensures.0 _ x.d.lettered.spells)) c.letters_with_c.ensures;
          };
    }

pub returns : goal.returns
returns c = record { same = elim [ A ↦ refl | B ↦ refl | C ↦ refl | D ↦ refl ]; gathered = (invariant_of-result c.before).gathered }
