-- `store_few` meets its contract. The invariant: D's words are those that r rows leave.
-- Assumes nothing.
use Rattle.std.proofs.Common.{◌≡◌, length, get_or}
use Rattle.words.specs.Loops.{each, put}
use Rattle.block.specs.Places.{place_of}
use Rattle.accumulate.specs.Added.{added_to}
use Rattle.store.proofs.store.store_few.Given as goal

abbrev pub invariant-loop-r : goal.invariant-loop-r
invariant-loop-r l =
    (length l.d ≡ length l.initial.d) × (l.d ≡ each l.r (λ k. put (added_to l.f (get_or l.sums k 0)) (place_of l.from l.offsets k)) l.initial.d)
