-- The README's example, by computation: A `ik`, B `kj`, D `ij`, tiles of 1 row, 1 column and depth 2, alpha 1, beta 2. It has 8 tiles.
-- Assumes nothing.
use mathlib.Core.Path.{◌≡◌, refl}
use mathlib.Core.Bool.{true, false}
use mathlib.Core.List.{List, [], ◌∷◌}
use Prim.Native.Nat.{ℕ}
use lib.IntN.{pos}
use Rattle.words.specs.Sums.{sum_to}
use Rattle.words.specs.Loops.{each, put}
use Rattle.layout.specs.Layout.{axes, axes_of, layout_of, address}
use Rattle.validity.specs.TensorQuestions.{rank_fits, counts_match, letters_valid, extents_valid, strides_valid, sizes_valid}
use Rattle.labels.specs.Labels.{labels}
use Rattle.points.specs.LabelQuestions.{extents_agree, letters_same, points, points_fit}
use Rattle.entries.specs.EntryQuestions.{has_entries, span, inside, below, strides_apart, apart}
use Rattle.contraction.specs.declared.contraction.Contraction.{Contraction}
use Rattle.contraction.specs.Operands.{four, contraction_of, together}
use Rattle.tensor_answers.specs.OwnQuestions.{tensor_questions}
use Rattle.questions.specs.Questions.{label_questions, entry_questions, layout_questions}
use Rattle.groups.specs.Groups.{group_of, in_group, group}
use Rattle.meaning.specs.Index.{index}
use Rattle.meaning.specs.Meaning.{entry}
use Rattle.tiles.specs.declared.grid.Sizes.{Sizes}
use Rattle.tiles.specs.Cut.{blocks, width, MB, NB, KB, total, tile_number, batch_of, column_of, panel_of, row_of}
use Rattle.tiles.specs.Progress.{old, part, final, done, done_count, state_at}
use Rattle.tiles.specs.TileWalk.{tile_at, visit_tile, walk_tiles}
use Rattle.tiles.specs.Setting.{Setting, panel_sum, done_sum, word_at, render, closed, add_panel, tiles_from}
use Rattle.tile_blocks.specs.ContractionInTiles.{address_at, start_at, entry_on, setting}
use Rattle.tile_questions.specs.TileQuestions.{sizes_fit, size_question, room_question, done_question, index_question, accept_questions, Accepted, tile_questions, state_questions}
use Rattle.answers.specs.TileAnswer.{ran, tile_refused}
use Rattle.answers.specs.StateAnswer.{is, state_refused}
use Rattle.tiled.specs.TileCall.{ran_call, tile_call, state_call}
use Rattle.tiled.specs.Demand3.{Call, tiles, state, tiled, found, run}

-- letters i, j and k are 105, 106 and 107
abbrev job : Contraction
job =
    contraction_of
    (layout_of (105 ∷ 107 ∷ []) (2 ∷ 3 ∷ []) (pos 1 ∷ pos 2 ∷ []) 0)
    (layout_of (107 ∷ 106 ∷ []) (3 ∷ 2 ∷ []) (pos 1 ∷ pos 3 ∷ []) 0)
    (layout_of (105 ∷ 106 ∷ []) (2 ∷ 2 ∷ []) (pos 1 ∷ pos 2 ∷ []) 0)
    1 2

abbrev sizes : Sizes
sizes = record { rows = 1; cols = 1; depth = 2 }

abbrev a : List ℕ
a = 1 ∷ 2 ∷ 3 ∷ 4 ∷ 5 ∷ 6 ∷ []

abbrev b : List ℕ
b = 1 ∷ 0 ∷ 2 ∷ 0 ∷ 1 ∷ 1 ∷ []

abbrev d : List ℕ
d = 100 ∷ 200 ∷ 300 ∷ 400 ∷ []

-- rows × depth + depth × cols words
abbrev work : List ℕ
work = 0 ∷ 0 ∷ 0 ∷ 0 ∷ []

abbrev S : Setting
S = setting job sizes (four a b [] d)

-- D's words after 3 tiles and after all 8
pub worked : (closed S 3 d ≡ 211 ∷ 402 ∷ 300 ∷ 400 ∷ []) × (closed S 8 d ≡ 211 ∷ 414 ∷ 608 ∷ 810 ∷ [])
unfolding sum_to each put axes axes_of layout_of address labels together group_of in_group group index entry blocks MB NB KB tile_number done panel_sum done_sum word_at render closed address_at start_at entry_on setting
worked = (refl, refl)

pub job_accepted : Accepted job sizes (four a b [] d)
unfolding axes axes_of layout_of labels together tensor_questions label_questions entry_questions layout_questions rank_fits counts_match letters_valid extents_valid strides_valid sizes_valid extents_agree letters_same points points_fit has_entries span inside below strides_apart apart accept_questions size_question sizes_fit
job_accepted = record { passed = refl }

-- 3 tiles, a tile call that is refused since its work slice is empty, and questions for states
abbrev part_way : List Call
part_way = state 0 0 0 ∷ tiles 3 work ∷ tiles 9 [] ∷ state 0 0 0 ∷ state 0 1 0 ∷ state 0 0 1 ∷ state 0 2 0 ∷ []

-- 3 tiles, all that are left, and none after those
abbrev to_the_end : List Call
to_the_end = tiles 3 work ∷ tiles 100 work ∷ tiles 1 work ∷ state 0 1 1 ∷ []

-- what these calls answer and leave
pub calls : (run job sizes a b [] part_way 0 d
    ≡ record {
      said = found (is old) ∷ tiled (ran 3 false) ∷ tiled (tile_refused 11 3) ∷ found (is final) ∷ found (is part) ∷ found (is old) ∷ found (state_refused 13) ∷ [];
      t = 3;
      words = 211 ∷ 402 ∷ 300 ∷ 400 ∷ [];
    }) × (run job sizes a b [] to_the_end 0 d
    ≡ record { said = tiled (ran 3 false) ∷ tiled (ran 8 true) ∷ tiled (ran 8 true) ∷ found (is final) ∷ []; t = 8; words = 211 ∷ 414 ∷ 608 ∷ 810 ∷ [] })
unfolding sum_to each put axes axes_of layout_of address labels together group_of in_group group index entry tensor_questions label_questions entry_questions layout_questions rank_fits counts_match letters_valid extents_valid strides_valid sizes_valid extents_agree letters_same points points_fit has_entries span inside below strides_apart apart blocks width MB NB KB total tile_number batch_of column_of panel_of row_of done done_count state_at panel_sum add_panel tile_at visit_tile walk_tiles tiles_from address_at start_at entry_on setting accept_questions size_question sizes_fit room_question done_question index_question tile_questions state_questions ran_call tile_call state_call run
calls = (refl, refl)
