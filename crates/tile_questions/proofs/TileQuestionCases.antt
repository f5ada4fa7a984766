-- Questions 10 to 13, by computation.
-- Assumes nothing.
use mathlib.Core.Path.{refl}
use Rattle.layout.specs.Layout.{axes_of, layout_of, axes}
use Rattle.validity.specs.TensorQuestions.{rank_fits, counts_match, letters_valid, extents_valid, strides_valid, sizes_valid}
use Rattle.labels.specs.Labels.{labels}
use Rattle.points.specs.LabelQuestions.{extents_agree, letters_same, points, points_fit}
use Rattle.entries.specs.EntryQuestions.{has_entries, span, inside, below, strides_apart, apart}
use Rattle.contraction.specs.Operands.{together}
use Rattle.tensor_answers.specs.OwnQuestions.{tensor_questions}
use Rattle.questions.specs.Questions.{label_questions, entry_questions, layout_questions}
use Rattle.groups.specs.Groups.{group_of, in_group, group}
use Rattle.tiles.specs.Cut.{blocks, MB, NB, KB, total}
use Rattle.tile_questions.specs.TileQuestions.{sizes_fit, size_question, room_question, done_question, index_question, accept_questions, tile_questions, state_questions}
use Rattle.tile_questions.specs.TileQuestionCases.{TileQuestionCases}

pub tile_question_cases : TileQuestionCases
unfolding axes_of layout_of axes rank_fits counts_match letters_valid extents_valid strides_valid sizes_valid labels extents_agree letters_same points points_fit has_entries span inside below strides_apart apart together tensor_questions label_questions entry_questions layout_questions group_of in_group group blocks MB NB KB total sizes_fit size_question room_question done_question index_question accept_questions tile_questions state_questions
tile_question_cases =
    record {
      smallest = refl;
      largest = refl;
      rows_0 = refl;
      cols_0 = refl;
      depth_0 = refl;
      rows_65 = refl;
      cols_65 = refl;
      depth_129 = refl;
      enough_work = refl;
      less_work = refl;
      last_index = refl;
      batch_past = refl;
      row_past = refl;
      column_past = refl;
      accepted = refl;
      sizes_10 = refl;
      work_11 = refl;
      done_12 = refl;
      state_10 = refl;
      state_12 = refl;
      state_13 = refl;
      state_0 = refl;
    }
