-- The questions of a tile call and of a state question, behind those about the layouts.
-- Assumes nothing.
use Rattle.std.specs.Prelude.{ℕ, ◌+◌, ◌*◌, ◌≡◌, Bool, ◌&&◌, List, [], ◌∷◌, ◌++◌, leb, ltb, length}
use Rattle.limits.specs.Limits.{rows_limit, cols_limit, depth_limit}
use Rattle.contraction.specs.declared.contraction.Contraction.{Contraction}
use Rattle.contraction.specs.Operands.{tensors}
use Rattle.tensor_answers.specs.Asking.{Question, ask, refusal}
use Rattle.questions.specs.Questions.{layout_questions}
use Rattle.meaning.specs.Meaning.{Slices, lengths_in}
use Rattle.tiles.specs.declared.grid.Sizes.{Sizes}
use Rattle.tiles.specs.Cut.{Cut, total}
use Rattle.tile_blocks.specs.ContractionInTiles.{cut_of}

abbrev pub within : ℕ → ℕ → Bool
within n limit = leb 1 n && leb n limit

-- 10: are rows and cols 1 to 64 and depth 1 to 128?
unfoldable pub sizes_fit : Sizes → Bool
sizes_fit z = within z.rows rows_limit && (within z.cols cols_limit && within z.depth depth_limit)

unfoldable pub size_question : Sizes → List Question
size_question z = ask 10 (sizes_fit z) ∷ []

-- 11: has work at least rows × depth + depth × cols words?
abbrev pub work_fits : Sizes → ℕ → Bool
work_fits z room = leb (z.rows * z.depth + z.depth * z.cols) room

unfoldable pub room_question : Sizes → ℕ → List Question
room_question z room = ask 11 (work_fits z room) ∷ []

-- 12: is the tiles-done count at most the total?
unfoldable pub done_question : Cut → ℕ → List Question
done_question G t = ask 12 (leb t (total G)) ∷ []

-- 13: is each of the three counts below its group's size?
abbrev pub is_index : Cut → ℕ → ℕ → ℕ → Bool
is_index G h i j = ltb h G.H && (ltb i G.M && ltb j G.N)

unfoldable pub index_question : Cut → ℕ → ℕ → ℕ → List Question
index_question G h i j = ask 13 (is_index G h i j) ∷ []

module _ (c : Contraction) (z : Sizes) (w : Slices) where
  -- 1 to 10
  unfoldable pub accept_questions : List Question
  accept_questions = layout_questions (tensors c) (lengths_in c w) ++ size_question z

  -- a contraction, with tile sizes and slices, is accepted when it passes every question up to 10
  pub record Accepted : Type 0 where
    pub passed : refusal accept_questions ≡ 0

  -- 1 to 12, for tiles done t and a work slice
  unfoldable pub tile_questions : List ℕ → ℕ → List Question
  tile_questions work t = accept_questions ++ (room_question z (length work) ++ done_question (cut_of c z) t)

  -- 1 to 10, 12 and 13
  unfoldable pub state_questions : ℕ → ℕ → ℕ → ℕ → List Question
  state_questions t h i j = accept_questions ++ (done_question (cut_of c z) t ++ index_question (cut_of c z) h i j)
