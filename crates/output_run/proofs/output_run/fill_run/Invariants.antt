-- `fill_run` meets its contract. The invariant: the addresses are v steps from the first, and the words of D are those that v turns leave.
-- A turn adds the step once more, and stores what `filled` stores: to reduce the sum to a word first changes nothing.
-- Assumes nothing.
use mathlib.Core.Path.{◌≡◌}
use lib.ListN.{length}
use Rattle.words.specs.Loops.{each}
use Rattle.groups.specs.Held.{labels_in}
use Rattle.offsets.specs.Offsets.{words_in}
use Rattle.sums.specs.Walk.{steps}
use Rattle.output_run.specs.FilledOutput.{filled_of}
use Rattle.output_run.proofs.output_run.fill_run.Given as goal

abbrev pub invariant-loop-v : goal.invariant-loop-v
invariant-loop-v l =
    (length l.d ≡ length l.initial.d) × (words_in l.at ≡ steps l.initial.at l.run.step l._v)
    × (l.d ≡ each l._v (λ n. filled_of l.x (labels_in l.depth.walk.group.now) (steps l.initial.at l.run.step n)) l.initial.d)
