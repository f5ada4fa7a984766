-- How large the numbers of a cut in its limits get, and where its tiles begin; there is a tile just where there is an output index. A group of n counts
-- has at most n blocks, so a product of the batch size and block counts is at most the product of the sizes, each taken as 1 where it is 0, and that is at
-- most the limit.
-- Assumes nothing.
use Prim.Native.Nat.{ℕ, zero, suc, ◌+◌, ◌-◌, ◌*◌, ◌/◌, ◌<◌, ◌≤◌, max}
use native.Mathlib.Nat.{le_trans, lt_of_lt_of_le, le-max_left, le-max_right, max-le, mul-le-mul, mul-pos, le-mul_of_pos_right, le-div_iff_mul-le}
use native.Mathlib.Omega.{arith}
use lib.Arith.{digits_lt}
use Rattle.limits.specs.Limits.{product_limit}
use Rattle.tiles.specs.Cut.{Cut, blocks, InSizes, MB, NB, KB, total, batch_of, column_of, panel_of, row_of}
use Rattle.tiles.specs.Grid.{Fits}
use Rattle.tiles.proofs.Cuts.{block_lt, blocks_le}
use Rattle.tiles.proofs.Numbering.{InTiles, KB_pos, number_lt, tile_of}

-- ---- where a block begins

pub block_begins : {n b k : ℕ} → 0 < b → k < blocks n b → k * b < n
unfolding blocks
block_begins {n} {b} {k} pos l = omega (arith, (le-div_iff_mul-le {x = suc k} {y = n + b - 1} pos).0 l)

-- depth size 0 has one panel, which begins at 0
pub panel_begins : {n b p : ℕ} → 0 < b → p < max 1 (blocks n b) → p * b ≤ n
panel_begins {n} {b} {p = zero} pos l = omega arith
panel_begins {n} {b} {p = suc p} pos l =
    let m : suc p < blocks n b = omega arith in
    omega (arith, block_begins pos m)

-- ---- a tile and an index

module _ (G : Cut) (rows_pos : 0 < G.rows) (cols_pos : 0 < G.cols) where
  open G use {rows, cols}

  -- an output index lies in a tile
  pub index_has_tile : {h i j : ℕ} → InSizes G h i j → 0 < total G
  unfolding MB NB
  index_has_tile {h} {i} {j} ix =
      omega (
        arith,
        number_lt G {h = h} {c = j / cols} {p = 0} {r = i / rows}
            (record { batch = ix.0; column = block_lt cols_pos ix.2; panel = KB_pos G; row = block_lt rows_pos ix.1 }),
      )

  -- the first tile begins at counts 0
  pub tile_has_index : 0 < total G → InSizes G 0 0 0
  unfolding MB NB
  tile_has_index b =
      let at = tile_of G 0 b in
      (omega (arith, at.batch), omega (arith, block_begins rows_pos at.row), omega (arith, block_begins cols_pos at.column))

-- ---- how large

-- factors of a product, each at least 1
factors_le : {a b c d l : ℕ} → 0 < a → 0 < b → 0 < c → 0 < d → a * b * c * d ≤ l
    → (b ≤ l) × (c ≤ l) × (d ≤ l) × (a * c ≤ l) × (a * c * d ≤ l)
factors_le {a} {b} {c} {d} pa pb pc pd h = (
  omega (arith, le-mul_of_pos_right b (mul-pos (mul-pos pa pc) pd)),
  omega (arith, le-mul_of_pos_right c (mul-pos (mul-pos pa pb) pd)),
  omega (arith, le-mul_of_pos_right d (mul-pos (mul-pos pa pb) pc)),
  omega (arith, le-mul_of_pos_right (a * c) (mul-pos pb pd)),
  omega (arith, le-mul_of_pos_right (a * c * d) pb),
)

module _ {G : Cut} (f : Fits G) where
  open G use {H, M, N, K}

  pub MB_le : MB G ≤ max 1 M
  unfolding MB
  MB_le = le_trans (blocks_le f.rows_pos) (le-max_right 1 M)

  pub NB_le : NB G ≤ max 1 N
  unfolding NB
  NB_le = le_trans (blocks_le f.cols_pos) (le-max_right 1 N)

  pub KB_le : KB G ≤ max 1 K
  unfolding KB
  KB_le = max-le (le-max_left 1 K) (le_trans (blocks_le f.depth_pos) (le-max_right 1 K))

  -- parts of the product of the sizes
  parts : (max 1 M ≤ product_limit) × (max 1 N ≤ product_limit) × (max 1 K ≤ product_limit)
      × (max 1 H * max 1 N ≤ product_limit) × (max 1 H * max 1 N * max 1 K ≤ product_limit)
  parts = factors_le (le-max_left 1 H) (le-max_left 1 M) (le-max_left 1 N) (le-max_left 1 K) f.points

  pub M_small : M ≤ product_limit
  M_small = le_trans (le-max_right 1 M) parts.0

  pub N_small : N ≤ product_limit
  N_small = le_trans (le-max_right 1 N) parts.1

  pub K_small : K ≤ product_limit
  K_small = le_trans (le-max_right 1 K) parts.2

  -- how many columns of tiles, strips of tiles and tiles there are
  pub columns_small : H * NB G ≤ product_limit
  columns_small = le_trans (mul-le-mul (le-max_right 1 H) NB_le) parts.3

  pub strips_small : H * NB G * KB G ≤ product_limit
  strips_small = le_trans (mul-le-mul (mul-le-mul (le-max_right 1 H) NB_le) KB_le) parts.4

  pub sum_of_small : total G ≤ product_limit
  unfolding total
  sum_of_small =
      let x : H * NB G * KB G * MB G ≤ max 1 H * max 1 N * max 1 K * max 1 M = mul-le-mul (mul-le-mul (mul-le-mul (le-max_right 1 H) NB_le) KB_le) MB_le in
      omega (arith, f.points)

  -- the steps to a tile's number
  pub number_small : {h c p r : ℕ} → InTiles G h c p r
      → (h * NB G + c < product_limit) × ((h * NB G + c) * KB G + p < product_limit) × (((h * NB G + c) * KB G + p) * MB G + r < product_limit)
  unfolding total
  number_small v =
      let x = digits_lt v.batch v.column in
      let y = digits_lt x v.panel in
      (lt_of_lt_of_le x columns_small, lt_of_lt_of_le y strips_small, lt_of_lt_of_le (digits_lt y v.row) sum_of_small)

  -- the tile of a number begins in its groups
  pub tile_in : {n : ℕ} → n < total G
      → (batch_of G n < H) × (row_of G n * G.rows < M) × (column_of G n * G.cols < N) × (panel_of G n * G.depth ≤ K)
  unfolding MB NB KB
  tile_in {n} l =
      let v = tile_of G n l in
      (v.batch, block_begins f.rows_pos v.row, block_begins f.cols_pos v.column, panel_begins f.depth_pos v.panel)
