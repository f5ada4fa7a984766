-- `letters_in` meets its contract. The loop's invariant: the axes so far passed, so that all pass just where the others do.
-- Assumes nothing.
use Rattle.std.proofs.Common.{◌≡◌, drop}
use Rattle.words.specs.Sums.{every}
use Rattle.labels.specs.LetterSets.{has}
use Rattle.points.proofs.label_questions.letters_in.Given as goal

abbrev pub invariant-loop-a : goal.invariant-loop-a
invariant-loop-a l = every (λ a. has l.set a.letter) (drop l.a-index l.axes) ≡ every (λ a. has l.set a.letter) l.axes
