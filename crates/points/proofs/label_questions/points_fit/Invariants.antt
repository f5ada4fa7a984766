-- `points_fit` meets its contract. The loop's invariant: the product so far is that of the letters so far, or the number just above the limit where that is
-- less. As every factor is 1 or more, a product that went above the limit stays above it.
-- Assumes nothing.
use Rattle.std.proofs.Common.{◌≡◌, ◌+◌, min, max, take}
use Rattle.words.specs.Sums.{product}
use Rattle.limits.specs.Limits.{product_limit}
use Rattle.labels.specs.Labels.{extent_of}
use Rattle.contraction.specs.Operands.{together}
use Rattle.contraction.specs.TensorAxes.{shape_of}
use Rattle.points.proofs.label_questions.points_fit.Given as goal

abbrev pub invariant-loop-c : goal.invariant-loop-c
invariant-loop-c l = l.product ≡ min (product (λ c. max 1 (extent_of c (together (shape_of l.fn.x)))) (take l.c-index l.letters)) (product_limit + 1)
