-- What the flat tile call gives; the sizes of a tile as flat parameters.
-- Assumes nothing.
use Rattle.std.specs.Prelude.{ℕ, cond, List}
use Rattle.tiles.specs.declared.grid.Sizes.{Sizes}
use Rattle.answers.specs.TileAnswer.{TileAnswer, ran, tile_refused, done_in, TileCall}

abbrev pub sizes_of : ℕ → ℕ → ℕ → Sizes
sizes_of rows cols depth = record { rows = rows; cols = cols; depth = depth }

-- the number that is returned: 0 where the call ran
abbrev pub tile_status : TileAnswer → ℕ
tile_status (ran done complete) = 0
tile_status (tile_refused number done) = number

-- 1 where the tiles done are the total, 0 where not, or where the call was refused
abbrev pub said_complete : TileAnswer → ℕ
said_complete (ran done complete) = cond complete 1 0
said_complete (tile_refused number done) = 0

-- what a call returns, the two numbers that it sets, D's words and the work slice afterwards
pub record FlatTiles : Type 0 where
  pub status : ℕ
  pub done : ℕ
  pub complete : ℕ
  pub words : List ℕ
  pub work : List ℕ

abbrev pub tiles_returned : ℕ → ℕ → ℕ → List ℕ → List ℕ → FlatTiles
tiles_returned status done complete words work = record { status = status; done = done; complete = complete; words = words; work = work }

abbrev pub flat_tiles : TileCall → FlatTiles
flat_tiles k = tiles_returned (tile_status k.answer) (done_in k.answer) (said_complete k.answer) k.words k.work
