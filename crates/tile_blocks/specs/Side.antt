-- The two sides of a product: A with the row group, and B with the column group.
-- Assumes nothing.
use Rattle.std.specs.Prelude.{ℕ}
use Rattle.contraction.specs.declared.contraction.Operand.{Operand}
use Rattle.contraction.specs.declared.contraction.Operand.TheVariants.{A, B}
use Rattle.groups.specs.Groups.{Group, row, column}
use Rattle.tiles.specs.Cut.{Cut, row_of, column_of}

pub data Side : Type 0 where
  left right : Side

-- one thing for each side
abbrev pub both : {X : Type 0} → X → X → Side → X
both l r left = l
both l r right = r

-- its tensor, and its group; the tensor lacks the labels of the other side's group
abbrev pub tensor_on : Side → Operand
tensor_on = both A B

abbrev pub group_on : Side → Group
group_on = both row column

-- the size of its group, how many counts of the group a tile has, and which block of them is tile n's
abbrev pub size_on : Cut → Side → ℕ
size_on G = both G.M G.N

abbrev pub tile_on : Cut → Side → ℕ
tile_on G = both G.rows G.cols

abbrev pub block_on : Cut → ℕ → Side → ℕ
block_on G n = both (row_of G n) (column_of G n)
