-- `axes_of` meets its contract. The loop's invariant: the array has 8 places, and those before i hold the axes that the words say.
-- Assumes nothing.
use mathlib.Core.Path.{◌≡◌}
use lib.ListN.{length}
use Rattle.words.specs.Lists.{tabulate, first_of}
use Rattle.layout.specs.Layout.{no_axis}
use Rattle.flat.specs.FlatLayout.{axis_at}
use Rattle.flat.proofs.layout_words.axes_of.Given as goal

abbrev pub invariant-loop-i : goal.invariant-loop-i
invariant-loop-i l = (length l.axes ≡ 8) × (first_of l.i no_axis l.axes ≡ tabulate l.i (axis_at l.words))
