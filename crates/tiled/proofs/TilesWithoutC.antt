-- Where C is not named, the calls read nothing of it: every definition takes D's layout and length for its, and the old word for its entry.
-- Assumes nothing.
use mathlib.Core.Path.{refl}
use Rattle.meaning.specs.Meaning.{entry}
use Rattle.tile_blocks.specs.ContractionInTiles.{address_at, start_at, entry_on, setting}
use Rattle.tile_questions.specs.TileQuestions.{accept_questions, tile_questions, state_questions}
use Rattle.tiling.specs.Work.{packed_block, packed, packed_last, work_after}
use Rattle.tiled.specs.TileCall.{ran_call, tile_call, state_call}
use Rattle.tiled.specs.TilesWithoutC.{TilesWithoutCHold}

pub tiles_without_c : TilesWithoutCHold
unfolding tile_call state_call ran_call tile_questions state_questions accept_questions setting address_at start_at entry_on entry work_after packed_last packed packed_block
tiles_without_c a b c d alpha beta z wa wb wc wd = record { tiles = λ work t budget. refl; states = λ t h i j. refl }
