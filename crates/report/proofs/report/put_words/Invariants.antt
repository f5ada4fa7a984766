-- `put_words` meets its contract. The invariant: the lines of the words so far are put, and they take at most 13 bytes each.
-- Assumes nothing.
use mathlib.Core.Path.{◌≡◌}
use Prim.Native.Nat.{◌+◌, ◌*◌, ◌≤◌}
use lib.ListN.{length}
use Rattle.report.specs.Text.{word_lines}
use Rattle.report.specs.Written.{Put}
use Rattle.report.proofs.report.put_words.Given as goal

abbrev pub invariant-loop-word : goal.invariant-loop-word
invariant-loop-word l =
    (goal.iterator-loop-word).can_next l.word-iterator × (goal.iterator-loop-word).is_finite l.word-iterator
    × (l.end ≤ l.at + 13 * length l.yielded) × (length l.out ≡ length l.initial.out)
    × Put l.initial.out l.at (word_lines l.words l.letters (length l.yielded)) l.end l.out
