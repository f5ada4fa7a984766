-- `extent_or` meets its contract. The loop's invariant: no axis so far has the letter, so that its extent is that among the axes that are left.
-- Assumes nothing.
use Rattle.std.proofs.Common.{◌≡◌, List, ◌++◌, drop}
use Rattle.layout.specs.declared.layout.Axis.{Axis}
use Rattle.labels.specs.Labels.{extent_of}
use Rattle.labels.proofs.labels.extent_or.Given as goal

abbrev pub invariant-loop-axis : goal.invariant-loop-axis
invariant-loop-axis l = (ys : List Axis) → extent_of l.c (l.axes ++ ys) ≡ extent_of l.c (drop l.axis-index l.axes ++ ys)
