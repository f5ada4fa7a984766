-- The sums of two sides of a tile. Inside contracts only.
-- Assumes nothing.
use Rattle.std.specs.Prelude.{ℕ}
use Rattle.thin_sums.specs.declared.line_sums.Side.{Side}
use Rattle.thin_lines.specs.ThinLines.{cross_sum}

-- Σ over the depth of the word at place r of the long side × that at place q of the short one
abbrev pub sides_sum : Side → Side → ℕ → ℕ → ℕ
sides_sum long short = cross_sum long.src.now long.starts.now long.block.now.offsets short.src.now short.starts.now short.block.now.offsets long.depth
