-- `offset_along` meets its contract. The loop goes from the first label to the last, as `offset_in` does; its invariant: `at` is the offset of the
-- labels done, and a count of the labels that are left is still to be added.
-- Assumes nothing.
use Rattle.groups.specs.Held.{labels_in}
use Rattle.counts.proofs.CountWords.{Partway, labels_from}
use Rattle.counts.proofs.counts.offset_along.Given as goal

abbrev pub invariant-loop-l : goal.invariant-loop-l
invariant-loop-l l = Partway l.fn.o l.at (labels_from l.l-items l.l-index) l.rest (labels_in l.fn.g) l.fn.n
