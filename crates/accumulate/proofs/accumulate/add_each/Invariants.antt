-- `add_each` meets its contract. The invariant: D's words are those that k turns leave, by what the closure makes.
-- Assumes nothing.
use Rattle.std.proofs.Common.{◌≡◌, ℕ, ◌+◌, length, get_or}
use Rattle.words.specs.Loops.{each, put}
use Rattle.accumulate.specs.Changes.{Makes}
use Rattle.accumulate.proofs.accumulate.add_each.Given as goal

abbrev pub invariant-loop-k : goal.invariant-loop-k
invariant-loop-k g l =
    (length l.d ≡ length l.initial.d) × goal.F-IsAlwaysCallable g l.change
    × ((made : ℕ → ℕ → ℕ) → Makes (goal.F-post g l.change) made → l.d ≡ each l.k (λ j. put (made (get_or l.sums (l.r + j) 0)) (l.at + j)) l.initial.d)
