-- `scatter_labels` meets its contract. The invariant: the first k counts stand at the front of the list, and where counts of the run are left, `at` is the word of the
-- count before. A turn forms the word of count k, anew or by one step, and stores it behind the others.
-- Assumes nothing.
use Rattle.std.proofs.Common.{◌≡◌, ℕ, ◌+◌, ◌%◌, ◌<◌, List}
use Rattle.contraction.specs.declared.contraction.Operand.{Operand}
use Rattle.groups.specs.Groups.{Label}
use Rattle.groups.specs.Held.{labels_in}
use Rattle.scatter.specs.ScatterVectors.{word_at, scatter_vector}
use Rattle.scatter.proofs.blocks.scatter_labels.Given as goal

-- `at` is the word of count n, and with it `left` counts of its run are left
pub record AtCount (o : Operand) (from : ℕ) (g : List Label) (len n at left : ℕ) : Type 0 where
  pub run : n % len + left ≡ len
  pub word : at ≡ word_at o from g n

-- before count n: where counts of a run are left, `at` is the word of the count before it
pub record Before (o : Operand) (from : ℕ) (g : List Label) (len n at left : ℕ) : Type 0 where
  pub last : 0 < left → (m : ℕ) × (n ≡ m + 1) × AtCount o from g len m at (left + 1)

abbrev pub invariant-loop-k : goal.invariant-loop-k
invariant-loop-k l =
    (l.place-items ≡ scatter_vector l.o l.from (labels_in l.g) l.first l.k l.initial.place-items) × Before l.o l.from (labels_in l.g) l.len (l.first + l.k) l.at l.left
