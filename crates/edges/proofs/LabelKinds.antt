-- A contraction with a label of every kind, by computation.
-- Assumes nothing.
use mathlib.Core.Path.{refl}
use Rattle.words.specs.Loops.{each, put}
use Rattle.words.specs.Sums.{sum_to}
use Rattle.layout.specs.Layout.{axes_of, layout_of, axes, address}
use Rattle.validity.specs.TensorQuestions.{rank_fits, counts_match, letters_valid, extents_valid, strides_valid, sizes_valid}
use Rattle.labels.specs.Labels.{labels}
use Rattle.points.specs.LabelQuestions.{extents_agree, letters_same, points, points_fit}
use Rattle.entries.specs.EntryQuestions.{has_entries, span, inside, below, strides_apart, apart}
use Rattle.contraction.specs.Operands.{together}
use Rattle.tensor_answers.specs.OwnQuestions.{tensor_questions}
use Rattle.questions.specs.Questions.{label_questions, entry_questions, layout_questions}
use Rattle.groups.specs.Groups.{group_of, in_group, group, outputs}
use Rattle.meaning.specs.Index.{index, out_index}
use Rattle.meaning.specs.Meaning.{entry, value, result}
use Rattle.tiles.specs.Cut.{blocks, MB, NB, KB, total, tile_number}
use Rattle.tiles.specs.Progress.{done, done_count, state_at}
use Rattle.tile_blocks.specs.ContractionInTiles.{address_at}
use Rattle.tile_questions.specs.TileQuestions.{sizes_fit, size_question, done_question, index_question, accept_questions, state_questions}
use Rattle.tiled.specs.TileCall.{state_call}
use Rattle.edges.specs.LabelKinds.{LabelKindCases}

pub label_kind_cases : LabelKindCases
unfolding each put sum_to axes_of layout_of axes address rank_fits counts_match letters_valid extents_valid strides_valid sizes_valid labels extents_agree letters_same points points_fit has_entries span inside below strides_apart apart together tensor_questions label_questions entry_questions layout_questions group_of in_group group outputs index out_index entry value result blocks MB NB KB total tile_number done done_count state_at address_at sizes_fit size_question done_question index_question accept_questions state_questions state_call
label_kind_cases =
    record {
      accepted = refl;
      groups = refl;
      words = refl;
      address = refl;
      last_tile = refl;
      all_tiles = refl;
      state_by_state = refl;
    }
