-- `gather` meets its contract. The invariant: `place` is k steps past `at`, and the words of `out` are those with k words stored from `to` on.
-- Assumes nothing.
use Rattle.std.proofs.Common.{◌≡◌, length, get_or}
use Rattle.words.specs.Fronts.{stored}
use Rattle.words.specs.Stepped.{stepped}
use Rattle.lane_words.proofs.lane_words.gather.Given as goal

abbrev pub invariant-loop-k : goal.invariant-loop-k
invariant-loop-k l = (length l.out ≡ length l.initial.out) × (l.place ≡ stepped l.at l.step l.k) × (l.out ≡ stored l.k (λ j. get_or l.src (stepped l.at l.step j) 0) l.to l.initial.out)
