-- `copy` meets its contract. The invariant: the words of `out` are those with k words stored from `to` on.
-- Assumes nothing.
use Rattle.std.proofs.Common.{◌≡◌, ◌+◌, length, get_or}
use Rattle.words.specs.Fronts.{stored}
use Rattle.lane_words.proofs.lane_words.copy.Given as goal

abbrev pub invariant-loop-k : goal.invariant-loop-k
invariant-loop-k l = (length l.out ≡ length l.initial.out) × (l.out ≡ stored l.k (λ j. get_or l.src (l.at + j) 0) l.to l.initial.out)
