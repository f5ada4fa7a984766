-- `Offsets::minus` meets its contract. The invariant: at the places of the first o tensors stand the differences, which wrap.
-- Assumes nothing.
use Rattle.std.proofs.Common.{◌≡◌, ℕ, ◌+◌, ◌-◌, ◌^◌, get_or}
use Rattle.words.specs.Words.{word}
use Rattle.words.specs.Fronts.{front}
use Rattle.offsets.specs.declared.offsets.Offsets.{Offsets}
use Rattle.offsets.proofs.offsets.Offsets.minus.Given as goal

-- the difference at a place
abbrev pub difference_at : Offsets → Offsets → ℕ → ℕ
difference_at x y k = word 64 (get_or x.words k 0 + (2 ^ 64 - get_or y.words k 0))

abbrev pub invariant-loop-o : goal.invariant-loop-o
invariant-loop-o l = l.words ≡ front l.o (difference_at l.self l.by) l.initial.words
