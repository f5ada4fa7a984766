-- Questions 10 to 13 on both sides of their limits, their numbers and their order.
-- Assumes nothing.
use Rattle.std.specs.Prelude.{ℕ, ◌≡◌, true, false, List, [], ◌∷◌}
use Rattle.contraction.specs.declared.contraction.Contraction.{Contraction}
use Rattle.contraction.specs.Operands.{three, contraction_of}
use Rattle.tensor_answers.specs.Asking.{refusal}
use Rattle.questions.specs.QuestionCases.{scalar}
use Rattle.meaning.specs.Meaning.{Slices}
use Rattle.tiles.specs.declared.grid.Sizes.{Sizes}
use Rattle.tiles.specs.TileCases.{small}
use Rattle.tile_questions.specs.TileQuestions.{sizes_fit, work_fits, is_index, tile_questions, state_questions}

abbrev sized : ℕ → ℕ → ℕ → Sizes
sized rows cols depth = record { rows = rows; cols = cols; depth = depth }

-- one tile: no letters, and a word in each slice
abbrev single : Contraction
single = contraction_of scalar scalar scalar 1 1

abbrev words : Slices
words = three (1 ∷ []) (1 ∷ []) (1 ∷ [])

-- what a tile call and a state question answer, by tile sizes, work slice, tiles done and row count
abbrev of_tiles : Sizes → List ℕ → ℕ → ℕ
of_tiles z work t = refusal (tile_questions single z words work t)

abbrev of_state : Sizes → ℕ → ℕ → ℕ
of_state z t i = refusal (state_questions single z words t 0 i 0)

pub record TileQuestionCases : Type 0 where
  -- "Are rows and cols 1 to 64 and depth 1 to 128? 10"
  pub smallest : sizes_fit (sized 1 1 1) ≡ true
  pub largest : sizes_fit (sized 64 64 128) ≡ true
  pub rows_0 : sizes_fit (sized 0 1 1) ≡ false
  pub cols_0 : sizes_fit (sized 1 0 1) ≡ false
  pub depth_0 : sizes_fit (sized 1 1 0) ≡ false
  pub rows_65 : sizes_fit (sized 65 64 128) ≡ false
  pub cols_65 : sizes_fit (sized 64 65 128) ≡ false
  pub depth_129 : sizes_fit (sized 64 64 129) ≡ false
  -- "Has work at least rows × depth + depth × cols words? 11"
  pub enough_work : work_fits (sized 2 3 4) 20 ≡ true
  pub less_work : work_fits (sized 2 3 4) 19 ≡ false
  -- "Is each of the three counts below its group's size? 13": they are 2, 5 and 4
  pub last_index : is_index small 1 4 3 ≡ true
  pub batch_past : is_index small 2 4 3 ≡ false
  pub row_past : is_index small 1 5 3 ≡ false
  pub column_past : is_index small 1 4 4 ≡ false
  -- the numbers, and "Asked in this order": of a tile call, and of a state question, which "skips 11 and alone has 13"; one tile is the total
  pub accepted : of_tiles (sized 1 1 1) (0 ∷ 0 ∷ []) 1 ≡ 0
  pub sizes_10 : of_tiles (sized 1 0 1) [] 2 ≡ 10
  pub work_11 : of_tiles (sized 1 1 1) (0 ∷ []) 2 ≡ 11
  pub done_12 : of_tiles (sized 1 1 1) (0 ∷ 0 ∷ []) 2 ≡ 12
  pub state_10 : of_state (sized 1 0 1) 2 1 ≡ 10
  pub state_12 : of_state (sized 1 1 1) 2 1 ≡ 12
  pub state_13 : of_state (sized 1 1 1) 1 1 ≡ 13
  pub state_0 : of_state (sized 1 1 1) 1 0 ≡ 0
