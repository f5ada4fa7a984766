-- `Offsets::along` meets its contract: a stride that is held as a word has that word.
-- Assumes nothing.
use Rattle.std.proofs.Common.{ℕ, ◌*◌, sym, ap, ◌∙◌}
use Rattle.words.specs.Words.{word}
use Rattle.words.proofs.Whole.{word_signed}
use Rattle.contraction.specs.TensorPlaces.{operand_number}
use Rattle.offsets.proofs.OwnedWords.{words_fit}
use Rattle.offsets.proofs.offsets.Offsets.along.Goals as goal

pub returns : goal.returns
returns c =
    let fits = words_fit c.args.l.strides _ c.well_formed.0.1.1.1.1.0.1.1 in
    record { each = λ o. c.times.ensures.each o ∙ ap (λ (y : ℕ). word 64 (c.args.value * y)) (sym (word_signed _ (fits (operand_number o)))) }
