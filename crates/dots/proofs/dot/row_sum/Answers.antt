-- `row_sum` meets its contract. The loop's invariant: the sum is the word of the dot product up to v.
use Rattle.std.proofs.Common.{◌+◌, refl}
use Rattle.words.specs.Sums.{sum_to}
use Rattle.dots.specs.Dot.{dot}
use Rattle.dots.proofs.Products.{product_more}
use Rattle.dots.proofs.dot.row_sum.Goals as goal

pub loop-v-init : goal.loop-v-init
unfolding dot sum_to
loop-v-init c = refl

pub loop-v-preserved : goal.loop-v-preserved
loop-v-preserved c =
    let s = c.args in
    let l = c.loop-v in
    product_more s.a.now s.b.now (λ k. s.i + k) (λ k. s.j + k) l.v refl refl l.invariant c.mul-sum.ensures
