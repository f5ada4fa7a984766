-- `tile` meets its contract: the grid's block counts are those of its cut. As the number is below the total, none of them is 0; and what a
-- division or its rest leaves is at most the number, which is small enough for 32 bits.
-- Assumes nothing.
use mathlib.Core.Path.{refl}
use Prim.Native.Nat.{ℕ, ◌/◌, ◌%◌, ◌<◌}
use native.Mathlib.Nat.{lt_of_le_of_lt, lt_of_lt_of_le, div-le_self, mod-le}
use native.Mathlib.Omega.{arith}
use Rattle.limits.specs.Limits.{product_limit}
use Rattle.tiles.specs.declared.grid.Grid.{Grid}
use Rattle.tiles.specs.Cut.{total, batch_of, column_of, panel_of, row_of}
use Rattle.tiles.specs.Grid.{cut_in, Counted}
use Rattle.tiles.proofs.Numbering.{tile_of}
use Rattle.tiles.proofs.Sizes.{sum_of_small}
use Rattle.tiles.proofs.grid.Grid.tile.Goals as goal

module _ {g : Grid} {n : ℕ} (a : Counted g × (n < total (cut_in g))) where
  -- no block count is 0
  some : (0 < g.row_blocks) × (0 < g.panels) × (0 < g.column_blocks)
  some =
      let v = tile_of (cut_in g) n a.1 in
      (omega (arith, v.row, a.0.row_blocks), omega (arith, v.panel, a.0.panels), omega (arith, v.column, a.0.column_blocks))

  -- what the four casts get
  few : (n / g.row_blocks / g.panels / g.column_blocks < product_limit) × (n / g.row_blocks / g.panels % g.column_blocks < product_limit)
      × (n / g.row_blocks % g.panels < product_limit) × (n % g.row_blocks < product_limit)
  few =
      let x : n < product_limit = lt_of_lt_of_le a.1 (sum_of_small a.0.fits) in
      let y : n / g.row_blocks < product_limit = lt_of_le_of_lt (div-le_self _ _) x in
      let z : n / g.row_blocks / g.panels < product_limit = lt_of_le_of_lt (div-le_self _ _) y in
      (lt_of_le_of_lt (div-le_self _ _) z, lt_of_le_of_lt (mod-le _ _) z, lt_of_le_of_lt (mod-le _ _) y, lt_of_le_of_lt (mod-le _ _) x)

pub nonzero_div-strip : goal.nonzero_div-strip
nonzero_div-strip c = (some c.requires).0

pub nonzero_div-column : goal.nonzero_div-column
nonzero_div-column c = (some c.requires).1

pub nonzero_div-result : goal.nonzero_div-result
nonzero_div-result c = (some c.requires).2

pub overflow_cast-result : goal.overflow_cast-result
overflow_cast-result c = omega (arith, (few c.requires).0)

pub nonzero_rem-result : goal.nonzero_rem-result
nonzero_rem-result c = (some c.requires).2

pub overflow_cast-result-2 : goal.overflow_cast-result-2
overflow_cast-result-2 c = omega (arith, (few c.requires).1)

pub nonzero_rem-result-2 : goal.nonzero_rem-result-2
nonzero_rem-result-2 c = (some c.requires).1

pub overflow_cast-result-3 : goal.overflow_cast-result-3
overflow_cast-result-3 c = omega (arith, (few c.requires).2)

pub nonzero_rem-result-3 : goal.nonzero_rem-result-3
nonzero_rem-result-3 c = (some c.requires).0

pub overflow_cast-result-4 : goal.overflow_cast-result-4
overflow_cast-result-4 c = omega (arith, (few c.requires).3)

pub returns : goal.returns
unfolding batch_of column_of panel_of row_of
returns c =
    let k = c.requires.0 in
    rw (k.column_blocks, k.panels, k.row_blocks) (record { batch = refl; column = refl; panel = refl; row = refl })
