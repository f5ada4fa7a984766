-- `Letters::with_axes` meets its contract. The loop's invariant: whatever axes the letters were of, with the axes so far behind them the letters so far
-- are the different ones, at most as many more.
-- Assumes nothing.
use Rattle.std.proofs.Common.{◌+◌, ◌≤◌, List, ◌++◌, take}
use Rattle.layout.specs.declared.layout.Axis.{Axis}
use Rattle.labels.specs.Labels.{labels}
use Rattle.labels.specs.LetterSets.{spelled, Spells}
use Rattle.labels.proofs.letter_sets.Letters.with_axes.Given as goal

abbrev pub invariant-loop-a : goal.invariant-loop-a
invariant-loop-a l =
    (l.all.count ≤ l.initial.all.count + l.a-index) × Spells l.all (spelled l.all)
    × ((xs : List Axis) → Spells l.initial.all (labels xs) → Spells l.all (labels (xs ++ take l.a-index l.axes)))
