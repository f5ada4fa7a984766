-- `valid_of` meets its contract: each of the three tests is made at every axis.
-- Assumes nothing.
use Rattle.std.proofs.Common.{◌∙◌, rules}
use borrow.Author.Tests.{tests}
use Rattle.words.proofs.Closures.{slice_all}
use Rattle.validity.specs.TensorQuestions.{letters_valid, extents_valid, strides_valid}
use Rattle.validity.proofs.tensor_questions.valid_of.Goals as goal

pub returns : goal.returns
unfolding letters_valid extents_valid strides_valid
returns c =
    let axes = c.as_slice-axes.ensures in
    record {
      letters = slice_all _ c.all.ensures.ran (c.iter.ensures.rest ∙ axes) (λ x b q k. search (rules, tests));
      extents = slice_all _ c.all-2.ensures.ran (c.iter-2.ensures.rest ∙ axes) (λ x b q k. search (rules, tests));
      strides = slice_all _ c.all-3.ensures.ran (c.iter-3.ensures.rest ∙ axes) (λ x b q k. search (rules, tests));
    }
