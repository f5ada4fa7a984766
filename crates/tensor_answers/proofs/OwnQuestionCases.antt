-- The numbers of questions 1 to 5 and their order, by computation.
-- Assumes nothing.
use mathlib.Core.Path.{refl}
use Rattle.layout.specs.Layout.{axes_of, layout_of, axes}
use Rattle.validity.specs.TensorQuestions.{rank_fits, counts_match, letters_valid, extents_valid, strides_valid, sizes_valid}
use Rattle.tensor_answers.specs.OwnQuestions.{tensor_questions}
use Rattle.tensor_answers.specs.OwnQuestionCases.{OwnQuestionCases}

pub own_question_cases : OwnQuestionCases
unfolding axes_of layout_of axes rank_fits counts_match letters_valid extents_valid strides_valid sizes_valid tensor_questions
own_question_cases =
    record {
      rank_1 = refl;
      counts_2 = refl;
      letter_3 = refl;
      across_tensors = refl;
      extent_4 = refl;
    }
