-- `add_to_four` meets its contract. The invariant: the address words are v steps from the first, and each run's sums have grown by the products of v depth
-- counts.
-- Assumes nothing.
use Rattle.std.proofs.Common.{◌≡◌}
use Rattle.words.specs.Stepped.{stepped}
use Rattle.four_lanes.specs.FourLanes.{LanesAdded}
use Rattle.four_lanes.proofs.four_lanes.add_to_four.Given as goal

abbrev pub invariant-loop-v : goal.invariant-loop-v
invariant-loop-v l =
    (l.i ≡ stepped l.from_a l.step_a l._v)
    × (l.j0 ≡ stepped l.from_0 l.step_b l._v) × (l.j1 ≡ stepped l.from_1 l.step_b l._v) × (l.j2 ≡ stepped l.from_2 l.step_b l._v) × (l.j3 ≡ stepped l.from_3 l.step_b l._v)
    × LanesAdded l.n l._v l.from_a l.step_a l.a l.from_0 l.step_b l.b l.initial.s0 l.s0 × LanesAdded l.n l._v l.from_a l.step_a l.a l.from_1 l.step_b l.b l.initial.s1 l.s1
    × LanesAdded l.n l._v l.from_a l.step_a l.a l.from_2 l.step_b l.b l.initial.s2 l.s2 × LanesAdded l.n l._v l.from_a l.step_a l.a l.from_3 l.step_b l.b l.initial.s3 l.s3
