-- The columns of a tile by the tile's lines in D. Inside contracts only.
-- Assumes nothing.
use Rattle.std.specs.Prelude.{ℕ, List}
use Rattle.block.specs.Places.{as_step, place_after}
use Rattle.accumulate.specs.declared.accumulate.Factors.{Factors}
use Rattle.columns.specs.declared.column_stores.Lines.{Lines}
use Rattle.columns.specs.declared.column_stores.Packing.{Packing}
use Rattle.columns.specs.ColumnNeeds.{Multipliable}
use Rattle.columns.specs.Stored.{column_stored}

-- from the address `at` of a column to that of the next, column j
abbrev pub place_past : ℕ → Lines → ℕ → ℕ
place_past at t j = place_after at t.from t.columns.now.offsets (as_step t.columns.now.step) j

-- D's words with the sums of the tile's column c added
abbrev pub lines_stored : List ℕ → Packing → Factors → Lines → ℕ → List ℕ → List ℕ
lines_stored work p f t c = column_stored work p f t.from t.columns.now.offsets t.rows.now.offsets t.rows.now.count c

-- the packed tile can be multiplied, read from a slice of `work` words, added to one of `d` words
abbrev pub LinesMultipliable : Lines → Packing → ℕ → ℕ → Type 0
LinesMultipliable t p d work =
    Multipliable t.from t.rows.now.offsets t.rows.now.lengths t.rows.now.count t.columns.now.offsets t.columns.now.count (as_step t.columns.now.step) p d work
