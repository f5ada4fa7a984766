-- `copy_tile` meets its contract. The invariant: D's words are those that b turns leave. A turn copies column b, from its place in C to its place in D.
-- Assumes nothing.
use Rattle.std.proofs.Common.{◌≡◌, length}
use Rattle.words.specs.Loops.{each}
use Rattle.copy.specs.Copied.{column_copied}
use Rattle.copy.proofs.copy.copy_tile.Given as goal

abbrev pub invariant-loop-b : goal.invariant-loop-b
invariant-loop-b l =
    (length l.d ≡ length l.initial.d) × (l.d ≡ each l.b (column_copied l.c l.from l.rows l.cols l.to l.down l.across) l.initial.d)
