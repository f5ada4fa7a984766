-- `plan_of` meets its contract: the labels of each set's letters are its group, which can be folded.
-- Assumes nothing.
use mathlib.Core.Path.{◌≡◌}
use Rattle.labels.specs.LetterSets.{has}
use Rattle.contraction.specs.Operands.{tensors, shape}
use Rattle.contraction.specs.TensorAxes.{shape_of}
use Rattle.groups.specs.declared.groups.Group.{Group as GroupCode}
use Rattle.groups.specs.Groups.{Group, batch, row, column, depth, labels_where, group}
use Rattle.groups.specs.Held.{labels_in}
use Rattle.groups.specs.Sets.{sets_in}
use Rattle.folding.specs.Fold.{fold}
use Rattle.plan.proofs.GroupsFoldable.{fold_gives}
use Rattle.plan.proofs.plan.plan_of.Goals.{After-groups_of-sets}
use Rattle.plan.proofs.plan.plan_of.Goals as goal

gives : (c : After-groups_of-sets) (g : Group) (r : GroupCode)
    → labels_in r ≡ fold (labels_where (shape_of c.args.x.now) (has (sets_in c.groups_of-sets.result g)))
    → labels_in r ≡ fold (group (shape (tensors c.args.c.now)) g)
gives c g r e =
    fold_gives c.args.c.now c.args.x.now c.requires.0 c.requires.1 (sets_in c.groups_of-sets.result g) (λ s. group s g) (c.groups_of-sets.ensures.labels g) (labels_in r) e

pub returns : goal.returns
returns c =
    let f1 = c.folded in
    let f2 = c.folded-2 in
    let f3 = c.folded-3 in
    let f4 = c.folded-4 in
    record {
      groups =
          elim [
            | batch ↦ gives c.before.before.before.before.before batch f1.result f1.ensures.0
            | row ↦ gives c.before.before.before.before.before row f2.result f2.ensures.0
            | column ↦ gives c.before.before.before.before.before column f3.result f3.ensures.0
            | depth ↦ gives c.before.before.before.before.before depth f4.result f4.ensures.0
          ];
      few = elim [ batch ↦ f1.ensures.1 | row ↦ f2.ensures.1 | column ↦ f3.ensures.1 | depth ↦ f4.ensures.1 ];
      bases = c.base_of.ensures.bases;
    }
