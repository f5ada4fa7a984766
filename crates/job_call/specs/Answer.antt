-- The text that answers a tile call.
-- Assumes nothing.
use Rattle.std.specs.Prelude.{ℕ, List}
use Rattle.contraction.specs.declared.contraction.Contraction.{Contraction}
use Rattle.meaning.specs.Meaning.{Slices}
use Rattle.tiles.specs.declared.grid.Sizes.{Sizes}
use Rattle.tiles.specs.Cut.{total}
use Rattle.tile_blocks.specs.ContractionInTiles.{cut_of}
use Rattle.answers.specs.TileAnswer.{TileCall, TileAnswer, ran, tile_refused}
use Rattle.states.specs.StateLetters.{state_letters}
use Rattle.report.specs.Text.{refused_text, report_text}

-- the text of what a call answered, with D's words after it
unfoldable pub answer_text : Contraction → Sizes → Slices → TileAnswer → List ℕ → List ℕ
answer_text c z w (ran t complete) words = report_text t (total (cut_of c z)) words (state_letters c z w t)
answer_text c z w (tile_refused number t) words = refused_text number

-- the text of a call
unfoldable pub call_text : Contraction → Sizes → Slices → TileCall → List ℕ
call_text c z w call = answer_text c z w call.answer call.words
