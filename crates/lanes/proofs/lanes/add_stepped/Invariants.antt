-- `add_stepped` meets its contract. The invariant: the address words are r steps from the first, and the sums are those that r turns leave.
-- Assumes nothing.
use Rattle.std.proofs.Common.{◌≡◌}
use Rattle.words.specs.Stepped.{stepped}
use Rattle.lanes.specs.LaneProducts.{products_added, products}
use Rattle.lanes.proofs.lanes.add_stepped.Given as goal

abbrev pub invariant-loop-r : goal.invariant-loop-r
invariant-loop-r l =
    (l.i ≡ stepped l.from_a l.step_a l.r) × (l.j ≡ stepped l.from_b l.step_b l.r) × (l.sums ≡ products_added l.r (products l.a l.from_a l.step_a l.b l.from_b l.step_b) l.initial.sums)
