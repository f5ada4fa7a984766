-- `fold_into` meets its contract. The loop goes from the first letter to the last, as `join_from` goes along the labels; its invariant: the labels folded so
-- far and those of the letters that the set has among those that are left fold to what those of all letters that it has fold to, and no more than the letters
-- done are folded so far.
-- Assumes nothing.
use Rattle.std.proofs.Common.{ℕ, ◌≤◌, Bool, List, map, drop}
use Rattle.words.specs.Lists.{keep}
use Rattle.labels.specs.LetterSets.{has}
use Rattle.contraction.specs.TensorAxes.{shape_of}
use Rattle.groups.specs.Groups.{Label, label, labels_where}
use Rattle.groups.specs.Held.{labels_in}
use Rattle.folding.proofs.Folding.{Folding}
use Rattle.folding.proofs.fold.fold_into.Given as goal

-- the labels of the letters that a test keeps from place i on
abbrev pub rest : (ℕ → Label) → (ℕ → Bool) → List ℕ → ℕ → List Label
rest f p cs i = map f (keep p (drop i cs))

abbrev pub invariant-loop-c : goal.invariant-loop-c
invariant-loop-c l =
    (l.out.count ≤ l.c-index)
    × Folding (labels_in l.out) (rest (label (shape_of l.fn.x)) (has l.set) l.letters l.c-index) (labels_where (shape_of l.fn.x) (has l.set))
