-- `add_times` meets its contract: with step 1 the words stand one after the other.
-- Assumes nothing.
use Rattle.std.proofs.Common.{arith}
use Rattle.lanes.proofs.LaneTurns.{products_same, row_at}
use Rattle.lanes.proofs.lanes.add_times.Goals as goal

pub returns-then-step-eq1 : goal.returns-then-step-eq1
returns-then-step-eq1 c =
    products_same c.args.sums.now
    (λ r h. rw (row_at c.requires.0 c.requires.1 {x = c.args.from} c.ranges.from.fits (omega arith) c.if-step-eq1.true c.requires.2 r h))
    c.add_scaled.ensures
