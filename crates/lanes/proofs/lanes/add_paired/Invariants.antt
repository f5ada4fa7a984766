-- `add_paired` meets its contract. The invariant: the sums are those that r turns leave.
-- Assumes nothing.
use Rattle.std.proofs.Common.{◌≡◌, ◌+◌, ◌*◌, get_or}
use Rattle.lanes.specs.LaneProducts.{products_added}
use Rattle.lanes.proofs.lanes.add_paired.Given as goal

abbrev pub invariant-loop-r : goal.invariant-loop-r
invariant-loop-r l = l.sums ≡ products_added l.r (λ k. get_or l.a (l.i + k) 0 * get_or l.b (l.j + k) 0) l.initial.sums
