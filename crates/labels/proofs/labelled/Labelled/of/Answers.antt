-- `Labelled::of` meets its contract: the letters are those of the axes, behind none.
-- Assumes nothing.
use Rattle.std.proofs.Common.{[], arith}
use Rattle.labels.specs.Labels.{labels}
use Rattle.labels.proofs.Spelling.{spells_itself, spells_count}
use Rattle.labels.proofs.labelled.Labelled.of.Goals as goal

pub with_axes-letters-requires : goal.with_axes-letters-requires
with_axes-letters-requires c =
    (spells_itself c.none.result [] c.none.ensures, c.requires, omega (arith, spells_count c.none.result [] c.none.ensures))

pub invariant_of-result : goal.invariant_of-result
unfolding labels
invariant_of-result c =
    let none = c.none in
    let pre = c.requires in
    record {
      lettered =
          record {
            checked = pre;
            few = omega (arith, c.with_axes-letters.ensures.1, spells_count none.result [] none.ensures, pre.few);
            spells = c.with_axes-letters.ensures.0 [] none.ensures;
          };
    }
