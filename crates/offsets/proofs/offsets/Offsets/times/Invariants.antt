-- `Offsets::times` meets its contract. The invariant: at the places of the first o tensors stand the products, which wrap.
-- Assumes nothing.
use Rattle.std.proofs.Common.{◌≡◌, ℕ, ◌*◌, get_or}
use Rattle.words.specs.Words.{word}
use Rattle.words.specs.Fronts.{front}
use Rattle.offsets.specs.declared.offsets.Offsets.{Offsets}
use Rattle.offsets.proofs.offsets.Offsets.times.Given as goal

-- the product at a place
abbrev pub times_at : ℕ → Offsets → ℕ → ℕ
times_at n x k = word 64 (n * get_or x.words k 0)

abbrev pub invariant-loop-o : goal.invariant-loop-o
invariant-loop-o l = l.words ≡ front l.o (times_at l.n l.self) l.initial.words
