-- `Offsets::plus` meets its contract. The invariant: at the places of the first o tensors stand the sums, which wrap.
-- Assumes nothing.
use Rattle.std.proofs.Common.{◌≡◌, ℕ, ◌+◌, get_or}
use Rattle.words.specs.Words.{word}
use Rattle.words.specs.Fronts.{front}
use Rattle.offsets.specs.declared.offsets.Offsets.{Offsets}
use Rattle.offsets.proofs.offsets.Offsets.plus.Given as goal

-- the sum at a place
abbrev pub sum_at : Offsets → Offsets → ℕ → ℕ
sum_at x y k = word 64 (get_or x.words k 0 + get_or y.words k 0)

abbrev pub invariant-loop-o : goal.invariant-loop-o
invariant-loop-o l = l.words ≡ front l.o (sum_at l.self l.by) l.initial.words
