-- The four groups as sets of letters, and the code's groups of labels. Inside contracts only.
-- Assumes nothing.
use Rattle.std.specs.Prelude.{ℕ, ◌≡◌, not, ◌&&◌, ◌||◌, map}
use Rattle.words.specs.Lists.{keep}
use Rattle.labels.specs.Labels.{labels}
use Rattle.labels.specs.LetterSets.{has}
use Rattle.contraction.specs.Operands.{Shape, together}
use Rattle.groups.specs.declared.groups.Sets.{Sets}
use Rattle.groups.specs.declared.groups.Groups.{Groups}
use Rattle.groups.specs.declared.groups.Group.{Group as GroupCode}
use Rattle.groups.specs.Groups.{Group, batch, row, column, depth, group, label}

-- from the letters that A, B and D have, by and, or and complement
pub record Split (a b d : ℕ) (r : Sets) : Type 0 where
  pub batch : (c : ℕ) → has r.batch c ≡ ((has a c && has b c) && has d c)
  pub column : (c : ℕ) → has r.column c ≡ ((has b c && has d c) && not (has a c))
  pub row : (c : ℕ) → has r.row c ≡ (has d c && not (has r.batch c || has r.column c))
  pub depth : (c : ℕ) → has r.depth c ≡ not (has d c)

-- the code's set for each of the four groups
abbrev pub sets_in : Sets → Group → ℕ
sets_in r batch = r.batch
sets_in r row = r.row
sets_in r column = r.column
sets_in r depth = r.depth

-- of the labels of all tensors, those whose letters a group's set has are the group
pub record Grouped (s : Shape) (r : Sets) : Type 0 where
  pub labels : (g : Group) → map (label s) (keep (has (sets_in r g)) (labels (together s))) ≡ group s g

-- the code's list for each of the four groups
abbrev pub groups_in : Groups → Group → GroupCode
groups_in r batch = r.batch
groups_in r row = r.row
groups_in r column = r.column
groups_in r depth = r.depth
