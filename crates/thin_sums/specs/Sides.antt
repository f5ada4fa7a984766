-- The sums of a line along a side of a tile. Inside contracts only.
-- Assumes nothing.
use Rattle.std.specs.Prelude.{ℕ, List, length}
use Rattle.thin_sums.specs.declared.line_sums.Side.{Side}
use Rattle.thin_sums.specs.LineSums.{line_sum, LineSummable}

-- Σ over the side's depth of the word at its place r × the line's word
abbrev pub side_sum : Side → List ℕ → ℕ → ℕ
side_sum x line = line_sum x.src.now x.starts.now x.block.now.offsets line x.depth

-- the sums of a line along the side can be formed
abbrev pub SideSummable : Side → Type 0
SideSummable x = LineSummable x.starts.now x.depth x.block.now.offsets x.block.now.count (length x.src.now)
