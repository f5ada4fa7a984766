-- `row_sum` meets its contract. The loop's invariant: the sum is the word of the dot product up to v.
-- Assumes nothing.
use Rattle.std.proofs.Common.{◌≡◌, ◌+◌}
use Rattle.words.specs.Words.{word}
use Rattle.dots.specs.Dot.{dot}
use Rattle.dots.proofs.dot.row_sum.Given as goal

abbrev pub invariant-loop-v : goal.invariant-loop-v
invariant-loop-v l = l.sum ≡ word 32 (dot l.v (λ k. l.i + k) l.a (λ k. l.j + k) l.b)
