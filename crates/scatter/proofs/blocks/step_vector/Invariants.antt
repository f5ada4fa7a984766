-- `step_vector` meets its contract. The invariant: the words before the place stand at the front of the list, and `at` is the next one.
-- Assumes nothing.
use Rattle.std.proofs.Common.{◌≡◌}
use Rattle.words.specs.Fronts.{front}
use Rattle.words.specs.Stepped.{stepped}
use Rattle.scatter.proofs.blocks.step_vector.Given as goal

abbrev pub invariant-loop-place : goal.invariant-loop-place
invariant-loop-place l = (l.place-items ≡ front l.place-index (stepped l.start l.step) l.initial.place-items) × (l.at ≡ stepped l.start l.step l.place-index)
