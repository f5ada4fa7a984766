-- What the code that sums may assume of a packed tile. Inside contracts only.
-- Assumes nothing.
use Rattle.std.specs.Prelude.{ℕ, ◌+◌, ◌*◌, ◌≤◌}
use Rattle.words.specs.Loops.{Within}
use Rattle.limits.specs.Limits.{block_limit}

-- sums can be formed side by side, for the first `count` words of lanes, each times one word, from a slice of `size` words
pub record LanesSummable (base width count from step depth size : ℕ) : Type 0 where
  pub fits : count ≤ width  -- each word has its place in the lanes
  pub few : count ≤ block_limit  -- and its sum
  pub lanes : base + width * depth ≤ size  -- the lanes are inside
  pub words : Within depth (λ d. from + step * d) size  -- and so are the words that they are times

-- the sums of a column can be formed, for `count` rows, from a slice of `size` words
pub record Summable (rows count from cols depth size : ℕ) : Type 0 where
  pub fits : count ≤ rows  -- each row has its place in packed A's lanes
  pub few : count ≤ block_limit  -- and its sum
  pub left : rows * depth ≤ size  -- packed A is inside
  pub right : Within depth (λ d. from + cols * d) size  -- the column's words of packed B are inside

-- those of row r can be formed, for `count` columns whose lanes begin at `behind`
pub record RowSummable (rows behind cols count r depth size : ℕ) : Type 0 where
  pub fits : count ≤ cols  -- each column has its place in packed B's lanes
  pub few : count ≤ block_limit  -- and its sum
  pub right : behind + cols * depth ≤ size  -- packed B is inside
  pub left : Within depth (λ d. rows * d + r) size  -- the row's words of packed A are inside
