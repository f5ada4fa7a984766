-- A thin tile: what may be assumed of the words that it reads and writes, and what it leaves in D. Inside contracts only.
-- Assumes nothing.
use Rattle.std.specs.Prelude.{ℕ, ◌<◌, Bool, false, ◌&&◌, ◌||◌, leb, List, []}
use Rattle.contraction.specs.declared.contraction.Operand.TheVariants.{D}
use Rattle.plan.specs.declared.plan.Plan.{Plan}
use Rattle.tiles.specs.declared.grid.Tile.{Tile}
use Rattle.tiles.specs.Cut.{Cut, width}
use Rattle.tiles.specs.TileWalk.{OwnPlaces, tile_at}
use Rattle.tiles.specs.Setting.{visit}
use Rattle.tile_blocks.specs.Side.{Side, both, size_on}
use Rattle.tile_blocks.specs.Planned.{place_in, place_of_output, plan_setting}

-- up to four rows or columns, and at least eight depth counts
unfoldable pub is_thin : Cut → Tile → Bool
is_thin G x = (leb (width G.M G.rows x.row) 4 || leb (width G.N G.cols x.column) 4) && leb 8 (width G.K G.depth x.panel)

module _ (p : Plan) (G : Cut) where
  -- all that a tile reads of A's and B's words and writes of D's is inside, and what it writes is at different places
  pub record TileClear (a b d : ℕ) : Type 0 where
    pub reads : (s : Side) (h m k : ℕ) → h < G.H → m < size_on G s → k < G.K → place_in p s h m k < both a b s
    pub places : OwnPlaces G (place_of_output p D) d

  -- D's words as a tile leaves them, each sum starting from the old word
  abbrev pub tile_added : Tile → ℕ → ℕ → List ℕ → List ℕ → List ℕ → List ℕ
  tile_added x alpha beta a b = tile_at G (visit (plan_setting p G false alpha beta a b [])) x.batch x.column x.panel x.row
