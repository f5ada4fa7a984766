-- The text that answers the job program's tile call. Inside contracts only.
-- Assumes nothing.
use Rattle.std.specs.Prelude.{ℕ, List}
use Rattle.words.specs.Lists.{tabulate}
use Rattle.limits.specs.Limits.{work_room}
use Rattle.contraction.specs.declared.contraction.Contraction.{Contraction}
use Rattle.meaning.specs.Meaning.{Slices}
use Rattle.tiles.specs.declared.grid.Sizes.{Sizes}
use Rattle.tiled.specs.TileCall.{tile_call}
use Rattle.job_call.specs.Answer.{call_text}

-- the text of a tile call with a work slice of zeros
unfoldable pub tile_text : Contraction → Sizes → Slices → ℕ → ℕ → List ℕ
tile_text c z w done budget = call_text c z w (tile_call c z w (tabulate work_room (λ k. 0)) done budget)
