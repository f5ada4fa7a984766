-- Scatter vectors: the offsets of a group's counts in a tensor. Inside contracts only.
-- Assumes nothing.
use Rattle.std.specs.Prelude.{◌≡◌, ℕ, ◌+◌, ◌<◌, List, slice_index}
use Rattle.words.specs.Words.{word, word_of}
use Rattle.words.specs.Fronts.{front}
use Rattle.contraction.specs.declared.contraction.Operand.{Operand}
use Rattle.groups.specs.Groups.{Label}
use Rattle.offsets.specs.Counts.{offset_in}
use Rattle.block.specs.declared.block.Block.{Block}
use Rattle.block.specs.Places.{as_step, Stepped, Measured}

-- the address word of a count of g in tensor o, moved by `from`
abbrev pub word_at : Operand → ℕ → List Label → ℕ → ℕ
word_at o from g n = word 64 (from + offset_in (word_of 64) o g n)

-- a list with the address words of `count` counts of g from `first` on at its front
abbrev pub scatter_vector : Operand → ℕ → List Label → ℕ → ℕ → List ℕ → List ℕ
scatter_vector o from g first count = front count (λ k. word_at o from g (first + k))

-- in tensor o the block of `count` counts of g from `first` on
pub record Blocked (o : Operand) (g : List Label) (first count : ℕ) (b : Block) : Type 0 where
  pub used : b.count ≡ count
  pub step : Stepped count b.offsets (as_step b.step)
  pub lengths : Measured count b.offsets b.lengths
  pub offsets : (k : ℕ) → k < count → slice_index b.offsets k ≡ word 64 (offset_in (word_of 64) o g (first + k))
