-- `add_spread` meets its contract. The invariant: the address word is r steps from the first, and the sums are those that r turns leave.
-- Assumes nothing.
use Rattle.std.proofs.Common.{◌≡◌}
use Rattle.words.specs.Stepped.{stepped}
use Rattle.lanes.specs.LaneProducts.{products_added, spread}
use Rattle.lanes.proofs.lanes.add_spread.Given as goal

abbrev pub invariant-loop-r : goal.invariant-loop-r
invariant-loop-r l = (l.at ≡ stepped l.from l.step l.r) × (l.sums ≡ products_added l.r (spread l.x l.from l.step l.by) l.initial.sums)
