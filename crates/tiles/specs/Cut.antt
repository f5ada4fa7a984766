-- How the counts of a contraction's groups are cut into tiles, and the tiles' numbers.
-- Assumes nothing.
use Rattle.std.specs.Prelude.{ℕ, ◌+◌, ◌-◌, ◌*◌, ◌/◌, ◌%◌, ◌<◌, min, max}
use Rattle.tiles.specs.declared.grid.Counts.{Counts}
use Rattle.tiles.specs.declared.grid.Sizes.{Sizes}

-- n counts cut into blocks of b: how many blocks, rounded up; and how many counts block k holds, fewer at the edge
unfoldable pub blocks : ℕ → ℕ → ℕ
blocks n b = (n + b - 1) / b

unfoldable pub width : ℕ → ℕ → ℕ → ℕ
width n b k = min b (n - k * b)

-- a tile is rows × cols × depth counts of the row, column and depth group, shorter at the edge; a panel is a block of depth counts, as deep as a tile
pub record Cut : Type 0 where
  pub H : ℕ  -- batch size
  pub M : ℕ  -- row size
  pub N : ℕ  -- column size
  pub K : ℕ  -- depth size
  pub rows : ℕ  -- of a tile
  pub cols : ℕ
  pub depth : ℕ

-- the cut that group sizes and tile sizes make
abbrev pub cut_by : Counts → Sizes → Cut
cut_by n z = record { H = n.batch; M = n.row; N = n.column; K = n.depth; rows = z.rows; cols = z.cols; depth = z.depth }

module _ (G : Cut) where
  open G use {H, M, N, K, rows, cols, depth}

  -- counts of an output index: each is below its group's size
  abbrev pub InSizes : ℕ → ℕ → ℕ → Type 0
  InSizes h i j = (h < H) × (i < M) × (j < N)

  -- row blocks, column blocks and panels; depth size 0 is one panel, with no terms
  unfoldable pub MB : ℕ
  MB = blocks M rows

  unfoldable pub NB : ℕ
  NB = blocks N cols

  unfoldable pub KB : ℕ
  KB = max 1 (blocks K depth)

  -- how many tiles there are
  unfoldable pub total : ℕ
  total = H * NB * KB * MB

  -- the tile of batch count h, column block c, panel p and row block r has this number
  unfoldable pub tile_number : ℕ → ℕ → ℕ → ℕ → ℕ
  tile_number h c p r = ((h * NB + c) * KB + p) * MB + r

  -- and the tile of number n has these
  unfoldable pub batch_of : ℕ → ℕ
  batch_of n = n / MB / KB / NB

  unfoldable pub column_of : ℕ → ℕ
  column_of n = n / MB / KB % NB

  unfoldable pub panel_of : ℕ → ℕ
  panel_of n = n / MB % KB

  unfoldable pub row_of : ℕ → ℕ
  row_of n = n % MB
