-- The code's grid of tiles. Inside contracts only.
-- Assumes nothing.
use Rattle.std.specs.Prelude.{ℕ, ◌*◌, ◌≤◌, ◌<◌, max, ◌≡◌}
use Rattle.limits.specs.Limits.{rows_limit, cols_limit, depth_limit, product_limit}
use Rattle.tiles.specs.declared.grid.Grid.{Grid}
use Rattle.tiles.specs.declared.grid.Tile.{Tile}
use Rattle.tiles.specs.declared.grid.State.{State as StateCode}
use Rattle.tiles.specs.Cut.{Cut, cut_by, MB, NB, KB, total, batch_of, column_of, panel_of, row_of}
use Rattle.tiles.specs.Progress.{State, old, part, final}

-- the grid's cut
abbrev pub cut_in : Grid → Cut
cut_in g = cut_by g.counts g.sizes

-- questions 7 and 10 passed: the counts together and each tile size are in their limits
pub record Fits (G : Cut) : Type 0 where
  pub points : max 1 G.H * max 1 G.M * max 1 G.N * max 1 G.K ≤ product_limit
  pub rows_pos : 0 < G.rows
  pub cols_pos : 0 < G.cols
  pub depth_pos : 0 < G.depth
  pub rows_few : G.rows ≤ rows_limit
  pub cols_few : G.cols ≤ cols_limit
  pub depth_few : G.depth ≤ depth_limit

-- the numbers that the grid holds are those of its cut
pub record Counted (g : Grid) : Type 0 where
  pub fits : Fits (cut_in g)
  pub row_blocks : g.row_blocks ≡ MB (cut_in g)
  pub column_blocks : g.column_blocks ≡ NB (cut_in g)
  pub panels : g.panels ≡ KB (cut_in g)
  pub total : g.total ≡ total (cut_in g)

-- the code's tile is that of number n
pub record TileOf (G : Cut) (n : ℕ) (x : Tile) : Type 0 where
  pub batch : x.batch ≡ batch_of G n
  pub column : x.column ≡ column_of G n
  pub panel : x.panel ≡ panel_of G n
  pub row : x.row ≡ row_of G n

-- the state that the code's enum gives
abbrev pub state_of : StateCode → State
state_of StateCode.Old = old
state_of StateCode.Part = part
state_of StateCode.Final = final
