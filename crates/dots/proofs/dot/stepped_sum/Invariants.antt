-- `stepped_sum` meets its contract. The loop's invariant: i and j are v steps from where A and B begin, and the sum is the word of the dot product up to v.
-- Assumes nothing.
use Rattle.std.proofs.Common.{◌≡◌}
use Rattle.words.specs.Words.{word}
use Rattle.words.specs.Stepped.{stepped}
use Rattle.dots.specs.Dot.{dot}
use Rattle.dots.proofs.dot.stepped_sum.Given as goal

abbrev pub invariant-loop-v : goal.invariant-loop-v
invariant-loop-v l =
    (l.i ≡ stepped l.from_a l.step_a l._v) × (l.j ≡ stepped l.from_b l.step_b l._v) × (l.sum ≡ word 32 (dot l._v (stepped l.from_a l.step_a) l.a (stepped l.from_b l.step_b) l.b))
