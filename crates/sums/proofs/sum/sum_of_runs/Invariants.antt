-- `sum_of_runs` meets its contract. The invariant: the sum is the word of the dot product over the counts of the first m runs, and where there is a run m, the
-- digits and address words are where it begins. A run's places are those of its counts, so its sum is the next part of that product.
-- Assumes nothing.
use Rattle.std.proofs.Common.{◌≡◌, ℕ, ◌*◌, ◌<◌, List, length, get_or, drop}
use Rattle.words.specs.Words.{word}
use Rattle.words.specs.Sums.{sum_to}
use Rattle.limits.specs.Limits.{labels_limit}
use Rattle.contraction.specs.declared.contraction.Operand.{Operand}
use Rattle.contraction.specs.declared.contraction.Operand.TheVariants.{A, B}
use Rattle.groups.specs.Groups.{Label}
use Rattle.offsets.specs.Offsets.{words_in}
use Rattle.odometer.specs.Odometer.{Stands}
use Rattle.sums.specs.Walk.{reached, over}
use Rattle.sums.proofs.sum.sum_of_runs.Given as goal

-- A's word × B's word at a count, from an address word of each tensor
abbrev pub term : List Label → List ℕ → List ℕ → (Operand → ℕ) → ℕ → ℕ
term g a b x n = get_or a (reached A (x A) g n) 0 * get_or b (reached B (x B) g n) 0

abbrev pub invariant-loop-m : goal.invariant-loop-m
invariant-loop-m l =
    (length l.digits ≡ labels_limit) × (l.sum ≡ word 32 (sum_to (l.depth.walk.len * l._m) (term (over l.depth.walk) l.a l.b (words_in l.initial.at))))
    × (l._m < l.depth.walk.runs → Stands (drop 1 (over l.depth.walk)) (words_in l.initial.at) l._m l.digits l.at)
