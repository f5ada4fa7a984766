-- `Labelled::none` meets its contract: no axis, and no letter.
-- Assumes nothing.
use Rattle.std.proofs.Common.{[], arith}
use Rattle.validity.specs.TensorQuestions.{letters_valid, extents_valid, strides_valid}
use Rattle.labels.specs.Labels.{labels}
use Rattle.labels.proofs.Spelling.{spells_count}
use Rattle.labels.proofs.labelled.Labelled.none.Goals as goal

pub invariant_of-result : goal.invariant_of-result
unfolding letters_valid extents_valid strides_valid labels
invariant_of-result c =
    let a = c.none.ensures in
    record {
      lettered =
          record {
            checked = record { few = omega (arith, a.1); letters = rw a.0 tt; extents = rw a.0 tt; strides = rw a.0 tt };
            few = omega (arith, spells_count c.none-2.result [] c.none-2.ensures);
            spells = rw a.0 c.none-2.ensures;
          };
    }
