-- `block_of` meets its contract: the scatter vector starts from no offset, so that the list's first words are those of the counts, and `Block::of` keeps the list.
-- Assumes nothing.
use Rattle.std.proofs.Common.{◌≡◌, ℕ, ◌+◌, ◌≤◌, min, List, get_or, ap, ◌∙◌, zero-add, arith}
use Rattle.words.specs.Words.{word, word_of}
use Rattle.words.proofs.Fronts.{get_or_front}
use Rattle.limits.specs.Limits.{block_limit}
use Rattle.contraction.specs.declared.contraction.Operand.{Operand}
use Rattle.groups.specs.Groups.{Label}
use Rattle.offsets.specs.Counts.{offset_in}
use Rattle.block.specs.declared.block.Block.{Block}
use Rattle.block.specs.Places.{BlockOf}
use Rattle.scatter.specs.ScatterVectors.{word_at, scatter_vector, Blocked}
use Rattle.scatter.proofs.blocks.block_of.Goals as goal

-- the block of a scatter vector that starts from no offset
blocked : (o : Operand) (g : List Label) (first count : ℕ) (before : List ℕ) {after : List ℕ} {r : Block} → count ≤ block_limit → after ≡ scatter_vector o 0 g first count before
    → BlockOf count after r → Blocked o g first count r
blocked o g first count before few w of =
    record {
      used = let all : min count block_limit ≡ count = omega arith in of.used ∙ all;
      step = record { step = rw of.holds of.step };
      lengths = rw of.holds of.lengths;
      offsets = λ k h.
          ap (λ (l : List ℕ). get_or l k 0) (of.holds ∙ w) ∙ get_or_front count (λ k. word_at o 0 g (first + k)) before k h
          ∙ ap (word 64) (zero-add (offset_in (word_of 64) o g (first + k)));
    }

pub returns : goal.returns
returns c =
    blocked _ _ _ _ _ c.requires.3 c.scatter_vector.ensures c.of.ensures
