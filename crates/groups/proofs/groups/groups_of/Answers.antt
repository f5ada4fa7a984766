-- `groups_of` meets its contract: of the letters of all tensors, each set has just those of its group.
-- Assumes nothing.
use Rattle.contraction.specs.TensorAxes.{labelled_in}
use Rattle.groups.proofs.Sets.{kept_group}
use Rattle.groups.proofs.groups.groups_of.Goals as goal

pub returns : goal.returns
returns c =
    let x = c.args.x.now in
    record {
      labels =
          kept_group x (λ o. (labelled_in x o).letters) (λ o. (labelled_in x o).lettered.spells) c.sets_of.result c.sets_of.ensures;
    }
