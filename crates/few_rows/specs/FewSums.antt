-- The sums of up to four rows of a packed tile, for each column those of its rows side by side. Inside contracts only.
-- Assumes nothing.
use Rattle.std.specs.Prelude.{◌≡◌, ℕ, ◌+◌, ◌*◌, ◌<◌, ◌≤◌, List, length, ◌≢◌, slice_index}
use Rattle.words.specs.Words.{word}
use Rattle.limits.specs.Limits.{depth_limit}
use Rattle.block.specs.Block.{Step}
use Rattle.block.specs.Places.{PlacesIn, Stepped, InLane}
use Rattle.columns.specs.declared.column_stores.Packing.{Packing}

-- the sum of row r and column c stands at 4 × c + r, for the first m rows and n columns
pub record FewSums (m n : ℕ) (f : ℕ → ℕ → ℕ) (few : List ℕ) : Type 0 where
  pub each : (r c : ℕ) → r < m → c < n → slice_index few (4 * c + r) ≡ word 32 (f r c)

-- a column's sums at the front
pub record ColumnTaken (c : ℕ) (few old new : List ℕ) : Type 0 where
  pub len : length new ≡ length old
  pub each : (r : ℕ) → r < 4 → slice_index new r ≡ slice_index few (4 * c + r)

-- the words of row r are put, and those of the other rows are as they were
pub record RowPut (r n : ℕ) (sums old new : List ℕ) : Type 0 where
  pub len : length new ≡ length old
  pub put : (c : ℕ) → c < n → slice_index new (4 * c + r) ≡ slice_index sums c
  pub others : (i c : ℕ) → i < 4 → (i ≢ r) → slice_index new (4 * c + i) ≡ slice_index old (4 * c + i)

-- a packed tile with m rows, four or fewer, and n columns in use can be multiplied: read from a slice of `work` words, added to one of `d` words
pub record FewMultipliable (from : ℕ) (rows : List ℕ) (m : ℕ) (columns : List ℕ) (n : ℕ) (step : Step) (p : Packing) (d work : ℕ) : Type 0 where
  pub few : m ≤ 4
  pub row : InLane p.rows m
  pub column : InLane p.cols n
  pub stepped : Stepped n columns step
  pub lanes : p.filled ≤ p.depth
  pub shallow : p.depth ≤ depth_limit
  pub writes : PlacesIn from columns n rows m d
  pub room : p.rows * p.depth + p.cols * p.depth ≤ work
