-- `add_by_step` meets its contract. The invariant: the place is k steps past the first, and D's words are those that k turns leave. A turn makes one word more and takes a
-- step.
-- Assumes nothing.
use Rattle.std.proofs.Common.{◌≡◌, ◌+◌, length, get_or}
use Rattle.words.specs.Loops.{each, put}
use Rattle.accumulate.specs.Added.{added_to}
use Rattle.words.specs.Stepped.{stepped}
use Rattle.accumulate.proofs.accumulate.add_by_step.Given as goal

abbrev pub invariant-loop-k : goal.invariant-loop-k
invariant-loop-k l = (length l.d ≡ length l.initial.d) × (l.at ≡ stepped l.at-2 l.step l.k) × (l.d ≡ each l.k (λ j. put (added_to l.f (get_or l.sums (l.r + j) 0)) (stepped l.at-2 l.step j)) l.initial.d)
