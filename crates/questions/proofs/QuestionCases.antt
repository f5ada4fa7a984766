-- The numbers of questions 5 to 9 and 30 and their order, by computation.
-- Assumes nothing.
use mathlib.Core.Path.{refl}
use Rattle.layout.specs.Layout.{axes_of, layout_of, axes}
use Rattle.validity.specs.TensorQuestions.{rank_fits, counts_match, letters_valid, extents_valid, strides_valid, sizes_valid}
use Rattle.labels.specs.Labels.{labels}
use Rattle.points.specs.LabelQuestions.{extents_agree, letters_same, points, points_fit}
use Rattle.entries.specs.EntryQuestions.{has_entries, span, inside, below, strides_apart, apart}
use Rattle.contraction.specs.Operands.{together}
use Rattle.tensor_answers.specs.OwnQuestions.{tensor_questions}
use Rattle.questions.specs.Questions.{label_questions, entry_questions, layout_questions}
use Rattle.questions.specs.QuestionCases.{QuestionCases}

pub question_cases : QuestionCases
unfolding axes_of layout_of axes rank_fits counts_match letters_valid extents_valid strides_valid sizes_valid labels extents_agree letters_same points points_fit has_entries span inside below strides_apart apart together tensor_questions label_questions entry_questions layout_questions
question_cases =
    record {
      accepted = refl;
      each_3 = refl;
      each_8 = refl;
      none_8 = refl;
      none_5 = refl;
      beside_8 = refl;
      base_5 = refl;
      agree_6 = refl;
      points_7 = refl;
      inside_8 = refl;
      apart_9 = refl;
      c_named = refl;
      c_3 = refl;
      c_8 = refl;
      c_6 = refl;
      c_30 = refl;
      c_30_not_a = refl;
    }
