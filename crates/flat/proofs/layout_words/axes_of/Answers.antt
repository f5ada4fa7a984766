-- `axes_of` meets its contract. The loop's invariant: the array has 8 places, and those before i hold the axes that the words say.
-- Assumes nothing.
use mathlib.Core.Path.{◌≡◌, refl, sym, ◌∙◌}
use native.Mathlib.Numerals.{add-one}
use native.Mathlib.Omega.{arith}
use lib.ListN.{length-set}
use Rattle.words.proofs.Tabulate.{first_of_all, first_of_push, tabulate_suc}
use Rattle.layout.specs.Layout.{no_axis, axes_of}
use Rattle.flat.specs.FlatLayout.{axis_at}
use Rattle.flat.proofs.layout_words.axes_of.Goals as goal

pub loop-i-init : goal.loop-i-init
loop-i-init c = (refl, refl)

pub loop-i-preserved : goal.loop-i-preserved
loop-i-preserved c =
    let l = c.loop-i in
    let axis = axis_at c.args.words.now in
    rw c.axis_at.ensures (
      length-set l.axes l.i (axis l.i) ∙ l.invariant.0,
      rw (first_of_push no_axis l.axes l.i (axis l.i) (omega (arith, l.invariant.0)), l.invariant.1, add-one l.i, tabulate_suc l.i axis),
    )

pub returns : goal.returns
unfolding axes_of
returns c =
    let l = c.loop-i in
    let z : l.i ≡ 8 = omega arith in
    sym (first_of_all no_axis l.axes 8 l.invariant.0) ∙ (rw z at l.invariant.1)
