-- A contraction in tiles: its sizes, and what its tiles read and write.
-- Assumes nothing.
use Rattle.std.specs.Prelude.{ℕ, List, [], ◌∷◌}
use Rattle.layout.specs.Layout.{address}
use Rattle.contraction.specs.declared.contraction.Contraction.{Contraction}
use Rattle.contraction.specs.Operands.{named, tensors}
use Rattle.contraction.specs.declared.contraction.Operand.TheVariants.{C, D}
use Rattle.groups.specs.Groups.{Label, Group, batch, row, column, depth, group, size}
use Rattle.meaning.specs.Index.{index}
use Rattle.meaning.specs.Meaning.{Slices, shape_in, start_of, entry}
use Rattle.tiles.specs.declared.grid.Sizes.{Sizes}
use Rattle.tiles.specs.Cut.{Cut, cut_by}
use Rattle.tiles.specs.Setting.{Setting, setting_by}
use Rattle.tile_blocks.specs.Side.{Side, left, right, tensor_on, group_on}

-- four groups of labels, cut by a tile's sizes
abbrev pub cut_groups : (Group → List Label) → Sizes → Cut
cut_groups g = cut_by (record { batch = size (g batch); row = size (g row); column = size (g column); depth = size (g depth) })

-- the contraction's groups
abbrev pub cut_of : Contraction → Sizes → Cut
cut_of c = cut_groups (group (shape_in c))

-- the index of a batch, a row and a column count; C and D have no depth label
abbrev pub output_index : Contraction → ℕ → ℕ → ℕ → ℕ → ℕ
output_index c h i j = index (shape_in c) ((batch, h) ∷ (row, i) ∷ (column, j) ∷ [])

-- where the output index of a batch, a row and a column count lies in D's slice
unfoldable pub address_at : Contraction → ℕ → ℕ → ℕ → ℕ
address_at c h i j = address (tensors c D) (output_index c h i j)

-- what the sum of that output index starts from, given the old word
unfoldable pub start_at : Contraction → Slices → ℕ → ℕ → ℕ → ℕ → ℕ
start_at c w h i j old = start_of (named c) (entry c w C (output_index c h i j)) old

-- a side's entry at a batch count, a count m of its group and a depth count; A has no column label and B no row label
unfoldable pub entry_on : Contraction → Slices → Side → ℕ → ℕ → ℕ → ℕ
entry_on c w s h m k = entry c w (tensor_on s) (index (shape_in c) ((depth, k) ∷ (batch, h) ∷ (group_on s, m) ∷ []))

-- the contraction as its tiles see it
unfoldable pub setting : Contraction → Sizes → Slices → Setting
setting c z w = setting_by (cut_of c z) (address_at c) (entry_on c w left) (entry_on c w right) (start_at c w) c.alpha c.beta
