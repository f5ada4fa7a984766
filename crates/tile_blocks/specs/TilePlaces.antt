-- Where a tile's counts lie, by the numbers that its code holds. Inside contracts only.
-- Assumes nothing.
use Rattle.std.specs.Prelude.{◌≡◌, ℕ, ◌+◌, ◌*◌, ◌<◌, ◌≤◌, List, slice_index}
use Rattle.words.specs.Words.{word, word_of}
use Rattle.limits.specs.Limits.{labels_limit, product_limit}
use Rattle.contraction.specs.declared.contraction.Operand.{Operand}
use Rattle.groups.specs.declared.groups.Group.{Group}
use Rattle.groups.specs.Groups.{Label, size}
use Rattle.groups.specs.Held.{labels_in}
use Rattle.offsets.specs.Counts.{offset_in}
use Rattle.scatter.specs.ScatterVectors.{word_at}
use Rattle.tiles.specs.declared.grid.Tile.{Tile}
use Rattle.tiles.specs.Cut.{Cut}
use Rattle.tile_blocks.specs.Side.{Side, both, size_on, tile_on}

-- the address word of a tensor that stands at x, moved by the offset of a count of g
abbrev pub moved_from : ℕ → Operand → List Label → ℕ → ℕ
moved_from x o g n = word 64 (x + word 64 (offset_in (word_of 64) o g n))

-- a group's n counts in blocks of b, of which block k begins inside; b is at most the limit
pub record Part (limit : ℕ) (g : Group) (n b k : ℕ) : Type 0 where
  pub few : g.count ≤ labels_limit
  pub counts : n ≡ size (labels_in g)
  pub small : n ≤ product_limit
  pub begins : k * b ≤ n
  pub within : b ≤ limit

-- the first n words of a list are the address words in tensor o of the counts of g from `first` on, moved by `from`
pub record Starts (o : Operand) (from : ℕ) (g : List Label) (first n : ℕ) (starts : List ℕ) : Type 0 where
  pub each : (k : ℕ) → k < n → slice_index starts k ≡ word_at o from g (first + k)

-- which block of a side's counts is the tile's
abbrev pub block_in : Tile → Side → ℕ
block_in x = both x.row x.column

-- the tile's counts begin inside their groups
pub record Begins (G : Cut) (x : Tile) : Type 0 where
  pub batch : x.batch < G.H
  pub side : (s : Side) → block_in x s * tile_on G s < size_on G s
  pub panel : x.panel * G.depth ≤ G.K
