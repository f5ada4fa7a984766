-- `add_products` meets its contract: where both steps are 1 the words stand one after the other.
-- Assumes nothing.
use Rattle.std.proofs.Common.{arith}
use Rattle.lanes.proofs.LaneTurns.{products_same, row_at}
use Rattle.lanes.proofs.lanes.add_products.Goals as goal

pub returns-then-step_b-eq1 : goal.returns-then-step_b-eq1
returns-then-step_b-eq1 c =
    products_same c.args.sums.now
    (λ r h. rw (
      row_at c.requires.0 c.requires.1 {x = c.args.i} c.ranges.i.fits (omega arith) c.if-step_a-eq1.true c.requires.2 r h,
      row_at c.requires.0 c.requires.1 {x = c.args.j} c.ranges.j.fits (omega arith) c.if-step_b-eq1.true c.requires.3 r h,
    ))
    c.add_paired.ensures
