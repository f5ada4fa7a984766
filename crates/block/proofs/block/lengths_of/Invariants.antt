-- `lengths_of` meets its contract. The invariant: `len` is the length from place i on, `next` its offset and `after` the step from it, if a place follows, and
-- each place from i on has its length. A turn puts the length of the place before.
-- Assumes nothing.
use Rattle.std.proofs.Common.{◌≡◌, ℕ, ◌+◌, ◌<◌, ◌≤◌, length, get_or}
use Rattle.block.specs.Stretches.{longest_from}
use Rattle.block.specs.Places.{StepOf}
use Rattle.block.proofs.block.lengths_of.Given as goal

abbrev pub invariant-loop-i : goal.invariant-loop-i
invariant-loop-i l =
    record {
      whole : length l.lengths ≡ 64;
      len : l.len ≡ longest_from l.n l.offsets l.i;
      next : l.next ≡ get_or l.offsets l.i 0;
      after : l.i + 1 < l.n → StepOf (get_or l.offsets l.i 0) (get_or l.offsets (l.i + 1) 0) l.after;
      each : (j : ℕ) → l.i ≤ j → get_or l.lengths j 0 ≡ longest_from l.n l.offsets j;
    }
