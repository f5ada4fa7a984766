-- What the engines walk of a contraction: its groups, or D's labels and the depth group, folded, and the tensors' bases. Inside contracts only.
-- Assumes nothing.
use Rattle.std.specs.Prelude.{ℕ, ◌≤◌, ◌≡◌, Bool, length}
use Rattle.limits.specs.Limits.{labels_limit}
use Rattle.layout.specs.declared.layout.Layout.{Layout}
use Rattle.labels.specs.Labels.{labels}
use Rattle.contraction.specs.Operands.{Shape, shape, together}
use Rattle.contraction.specs.declared.contraction.Operand.{Operand}
use Rattle.groups.specs.declared.groups.Group.{Group as GroupCode}
use Rattle.groups.specs.Groups.{Group, depth, labels_where, group, outputs}
use Rattle.groups.specs.Held.{labels_in}
use Rattle.groups.specs.Sets.{groups_in}
use Rattle.groups.specs.Foldable.{Foldable}
use Rattle.offsets.specs.declared.offsets.Offsets.{Offsets}
use Rattle.offsets.specs.Offsets.{words_in}
use Rattle.folding.specs.Fold.{fold}
use Rattle.plan.specs.declared.plan.Plan.{Plan}

-- there is room for all labels, and those whose letters pass any test can be folded
pub record AllFoldable (s : Shape) : Type 0 where
  pub few : length (labels (together s)) ≤ labels_limit
  pub labels : (p : ℕ → Bool) → Foldable (labels_where s p)

-- where each tensor begins
pub record Bases (t : Operand → Layout) (r : Offsets) : Type 0 where
  pub bases : (o : Operand) → words_in r o ≡ (t o).base

-- the code's list for each of the four groups
abbrev pub planned : Plan → Group → GroupCode
planned p g = groups_in p.groups g

pub record Planned (t : Operand → Layout) (p : Plan) : Type 0 where
  pub groups : (g : Group) → labels_in (planned p g) ≡ fold (group (shape t) g)
  pub few : (g : Group) → (planned p g).count ≤ labels_limit
  pub bases : (o : Operand) → words_in p.base o ≡ (t o).base

-- of what the plain engine walks: D's labels and the depth group
pub record OutputPlanned (t : Operand → Layout) (outer inner : GroupCode) (base : Offsets) : Type 0 where
  pub output : labels_in outer ≡ fold (outputs (shape t))
  pub few_output : outer.count ≤ labels_limit
  pub depth : labels_in inner ≡ fold (group (shape t) depth)
  pub few_depth : inner.count ≤ labels_limit
  pub bases : (o : Operand) → words_in base o ≡ (t o).base
