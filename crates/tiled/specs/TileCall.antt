-- What a tile call and a state question answer, and every lent word afterwards.
-- Assumes nothing.
use Rattle.std.specs.Prelude.{ℕ, ◌+◌, ◌-◌, min, cond, List, eqb}
use Rattle.contraction.specs.declared.contraction.Contraction.{Contraction}
use Rattle.contraction.specs.declared.contraction.Operand.TheVariants.{D}
use Rattle.tensor_answers.specs.Asking.{refusal}
use Rattle.meaning.specs.Meaning.{Slices}
use Rattle.tiles.specs.declared.grid.Sizes.{Sizes}
use Rattle.tiles.specs.Cut.{total}
use Rattle.tiles.specs.Progress.{state_at}
use Rattle.tiles.specs.Setting.{walk, tiles_from}
use Rattle.answers.specs.TileAnswer.{ran, tile_refused, TileCall, tile_call_of}
use Rattle.answers.specs.StateAnswer.{StateAnswer, is, state_refused}
use Rattle.tile_blocks.specs.ContractionInTiles.{cut_of, setting}
use Rattle.tile_questions.specs.TileQuestions.{tile_questions, state_questions}
use Rattle.tiling.specs.Work.{work_after}

module _ (c : Contraction) (z : Sizes) (w : Slices) where
  -- how many tiles a call runs after t: the smaller of the budget and what is left
  abbrev pub to_run : ℕ → ℕ → ℕ
  to_run t budget = min budget (total (cut_of c z) - t)

  unfoldable pub ran_call : List ℕ → ℕ → ℕ → TileCall
  ran_call work t budget =
      tile_call_of (ran (t + to_run t budget) (eqb (t + to_run t budget) (total (cut_of c z))))
      (walk (setting c z w) (tiles_from t (to_run t budget)) (w D))
      (work_after c z w (tiles_from t (to_run t budget)) work)

  -- where questions 1 to 12 pass, the tiles run; else the number of the first no, the count as given, and no word changed
  unfoldable pub tile_call : List ℕ → ℕ → ℕ → TileCall
  tile_call work t budget =
      cond (eqb (refusal (tile_questions c z w work t)) 0)
      (ran_call work t budget)
      (tile_call_of (tile_refused (refusal (tile_questions c z w work t)) t) (w D) work)

  -- where questions 1 to 10, 12 and 13 pass, the state after t tiles; else the number of the first no
  unfoldable pub state_call : ℕ → ℕ → ℕ → ℕ → StateAnswer
  state_call t h i j =
      cond (eqb (refusal (state_questions c z w t h i j)) 0)
      (is (state_at (cut_of c z) t h i j))
      (state_refused (refusal (state_questions c z w t h i j)))
