-- `add_still` meets its contract. The invariant: the address words are v steps from the first, and each sum has grown by the products of v depth counts.
-- Assumes nothing.
use Rattle.std.proofs.Common.{◌≡◌}
use Rattle.words.specs.Stepped.{stepped}
use Rattle.dots.specs.Dot.{dot}
use Rattle.side_sums.specs.SideSums.{side_run, Added}
use Rattle.side_sums.proofs.side.add_still.Given as goal

abbrev pub invariant-loop-v : goal.invariant-loop-v
invariant-loop-v l =
    (l.i ≡ stepped l.x.from l.x.step l._v) × (l.j ≡ stepped l.y.from l.y.step l._v)
    × Added l.n (λ r. dot l._v (side_run l.x.from l.x.along l.x.step r) l.x.words.now (stepped l.y.from l.y.step) l.y.words.now) l.initial.sums l.sums
