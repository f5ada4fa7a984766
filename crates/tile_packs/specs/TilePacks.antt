-- The packed blocks of a tile: where they stand in the work slice and what packing leaves there. Inside contracts only.
-- Assumes nothing.
use Rattle.std.specs.Prelude.{ℕ, ◌+◌, ◌*◌, ◌<◌, ◌≤◌, Bool, cond, ◌&&◌, List, ◌++◌, ltb, get_or, drop}
use Rattle.words.specs.Lists.{tabulate}
use Rattle.plan.specs.declared.plan.Plan.{Plan}
use Rattle.stretch.specs.StretchLanes.{lanes_stored}
use Rattle.pack.specs.Packed.{packed_word}
use Rattle.tiles.specs.declared.grid.Tile.{Tile}
use Rattle.tiles.specs.Cut.{Cut, width}
use Rattle.tile_blocks.specs.Side.{Side, left, right, both, size_on, tile_on}
use Rattle.tile_blocks.specs.Planned.{place_in}
use Rattle.tile_blocks.specs.TilePlaces.{block_in}

-- how many words a tile packs: A's block and B's
abbrev pub packs : Cut → ℕ
packs G = G.rows * G.depth + G.cols * G.depth

-- how many counts of a side's group, and how many depth counts, a tile has
abbrev pub side_width : Cut → Tile → Side → ℕ
side_width G x s = width (size_on G s) (tile_on G s) (block_in x s)

abbrev pub panel_width : Cut → Tile → ℕ
panel_width G x = width G.K G.depth x.panel

module _ (G : Cut) where
  -- where a side's block begins in the work slice: A's block first, B's right after it
  abbrev pub block_start : Side → ℕ
  block_start = both 0 (G.rows * G.depth)

  -- where the word of count l of a side's block and depth count d stands in the work slice
  abbrev pub work_place : Side → ℕ → ℕ → ℕ
  work_place s l d = block_start s + (tile_on G s * d + l)

  -- word y of a side's block as it stands in the work slice, 0 past the edge
  abbrev pub padded_word : Tile → Side → List ℕ → ℕ → ℕ
  padded_word x s work = packed_word (tile_on G s) (side_width G x s) (panel_width G x) (λ l d. get_or work (work_place s l d) 0)

  -- both blocks so, and the rest unchanged
  unfoldable pub padded : Tile → List ℕ → List ℕ
  padded x work = tabulate (G.rows * G.depth) (padded_word x left work) ++ (tabulate (G.cols * G.depth) (padded_word x right work) ++ drop (packs G) work)

module _ (p : Plan) (G : Cut) where
  -- all that a side's block reads of `src` words is inside, and it has room at the front of `out` words
  pub record SideClear (s : Side) (src out : ℕ) : Type 0 where
    pub reads : (h m k : ℕ) → h < G.H → m < size_on G s → k < G.K → place_in p s h m k < src
    pub room : tile_on G s * G.depth ≤ out

  -- a tile's block of a side's words stored in lanes from `to` on, one for each depth count
  unfoldable pub side_lanes : Tile → Side → List ℕ → ℕ → List ℕ → List ℕ
  side_lanes x s src =
      lanes_stored (panel_width G x) (side_width G x s) (tile_on G s)
      (λ d l. get_or src (place_in p s x.batch (block_in x s * tile_on G s + l) (x.panel * G.depth + d)) 0)

  -- the work slice with that block at its place
  abbrev pub side_packed : Tile → Side → List ℕ → List ℕ → List ℕ
  side_packed x s src = side_lanes x s src (block_start G s)

  -- and as the product finds it: B's block is packed anew but where the tile before left it, which has all but the row block in common
  abbrev pub renewed : Tile → Bool → List ℕ → List ℕ → List ℕ
  renewed x held b work = cond (held && ltb 0 x.row) work (side_packed x right b work)
