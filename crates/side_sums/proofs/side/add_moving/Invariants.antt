-- `add_moving` meets its contract. The invariant: the address words are v steps from the first, and each sum has grown by the products of v depth counts.
-- Assumes nothing.
use Rattle.std.proofs.Common.{◌≡◌}
use Rattle.words.specs.Stepped.{stepped}
use Rattle.dots.specs.Dot.{dot}
use Rattle.side_sums.specs.SideSums.{side_run, Added}
use Rattle.side_sums.proofs.side.add_moving.Given as goal

abbrev pub invariant-loop-v : goal.invariant-loop-v
invariant-loop-v l =
    (l.i ≡ stepped l.a.from l.a.step l._v) × (l.j ≡ stepped l.b.from l.b.step l._v)
    × Added l.n (λ r. dot l._v (side_run l.a.from l.a.along l.a.step r) l.a.words.now (side_run l.b.from l.b.along l.b.step r) l.b.words.now) l.initial.sums l.sums
