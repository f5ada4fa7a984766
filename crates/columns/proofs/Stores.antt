-- The columns of a tile: what they read of the packed blocks is inside, and storing a column's sums is what `column_stored` says.
-- Assumes nothing.
use mathlib.Core.Path.{◌≡◌}
use mathlib.Core.List.{List}
use Prim.Native.Nat.{ℕ, ◌+◌, ◌*◌, ◌<◌, ◌≤◌}
use native.Mathlib.Nat.{le_refl, mul-le-mul, mul-le-mul_left}
use native.Mathlib.Omega.{arith}
use mir.Syntax.{w64}
use mir.Val.{Fits}
use lib.ListN.{get_or}
use Rattle.words.specs.Loops.{each, put, Within}
use Rattle.words.proofs.Loops.{each_ext}
use Rattle.words.proofs.Lanes.{lane_inside}
use Rattle.limits.specs.Limits.{block_limit}
use Rattle.block.specs.Block.{Step}
use Rattle.block.specs.Places.{place_of, place_after, Measured}
use Rattle.block.proofs.Steps.{reaches}
use Rattle.kernel.specs.Kernel.{column_sum, ColumnSums}
use Rattle.kernel.specs.KernelNeeds.{Summable}
use Rattle.accumulate.specs.declared.accumulate.Factors.{Factors}
use Rattle.accumulate.specs.Added.{added_to}
use Rattle.columns.specs.declared.column_stores.Packing.{Packing}
use Rattle.columns.specs.Stored.{column_stored, tile_sum}
use Rattle.columns.specs.ColumnNeeds.{Multipliable}

module _ {from : ℕ} {rows lengths : List ℕ} {m : ℕ} {columns : List ℕ} {n : ℕ} {step : Step} {p : Packing} {len size : ℕ}
    (able : Multipliable from rows lengths m columns n step p len size) where
  pub few_rows : m ≤ block_limit
  few_rows = omega (arith, able.row.fits, able.row.narrow)

  pub few_columns : n ≤ block_limit
  few_columns = omega (arith, able.column.fits, able.column.narrow)

  -- packed A is short, and so is what stands before a column's words of packed B
  pub short : Fits w64 (p.rows * p.depth)
  short = omega (arith, mul-le-mul able.row.narrow able.shallow)

  pub short_before : (c : ℕ) → c < n → Fits w64 (p.rows * p.depth + c)
  short_before c h = omega (arith, mul-le-mul able.row.narrow able.shallow, few_columns)

  -- the sums of column c can be formed
  pub summable : (c : ℕ) → c < n → Summable p.rows m (p.rows * p.depth + c) p.cols p.filled size
  summable c h =
      record {
        fits = able.row.fits;
        few = few_rows;
        left = omega (arith, mul-le-mul_left p.rows able.lanes, able.room);
        right = record {
          each = λ d l. omega (arith, lane_inside p.cols l able.lanes (le_refl (p.cols * p.depth)), able.column.fits, able.room);
        };
      }

  -- to store column c in a list that has kept its length: its places are inside
  pub storable : (c : ℕ) {at now : ℕ} → c < n → at ≡ place_of from columns c → now ≡ len
      → (m ≤ block_limit) × Measured m rows lengths × Within m (place_of at rows) now
  storable c h a e = (few_rows, able.measured, rw (a, e) (able.writes.each c h))

  -- from the place of column c the next one, j, is reached
  pub next_column : (c j : ℕ) {at r : ℕ} → j ≡ c + 1 → j < n → at ≡ place_of from columns c → r ≡ place_after at from columns step j
      → r ≡ place_of from columns j
  next_column = reaches from columns step able.stepped few_columns

-- the sums of column c, which its place `at` begins
pub column_stored_lem : (work : List ℕ) (p : Packing) (f : Factors) (from : ℕ) (columns rows : List ℕ) (count c : ℕ) {base at : ℕ} {sums : List ℕ} (d : List ℕ)
    → base ≡ p.rows * p.depth + c → at ≡ place_of from columns c → ColumnSums count (column_sum work p.rows base p.cols p.filled) sums
    → each count (λ r. put (added_to f (get_or sums r 0)) (place_of at rows r)) d ≡ column_stored work p f from columns rows count c d
unfolding tile_sum
column_stored_lem work p f from columns rows count c d b a s = each_ext count (λ r h x. rw (s.each r h, a, b)) d
