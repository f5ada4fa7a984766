-- `copy_column` meets its contract. The invariant: D's words are those that r turns leave. A turn reads and writes at the places of row r, which are inside.
-- Assumes nothing.
use Rattle.std.proofs.Common.{◌≡◌, length, get_or}
use Rattle.words.specs.Loops.{overwrite}
use Rattle.block.specs.Places.{place_of}
use Rattle.copy.proofs.copy.copy_column.Given as goal

abbrev pub invariant-loop-r : goal.invariant-loop-r
invariant-loop-r l =
    (length l.d ≡ length l.initial.d) × (l.d ≡ overwrite l.r (place_of l.to l.down) (λ k. get_or l.c (place_of l.from l.rows k) 0) l.initial.d)
