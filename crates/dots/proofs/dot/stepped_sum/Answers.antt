-- `stepped_sum` meets its contract. The loop's invariant: i and j are v steps from where A and B begin, and the sum is the word of the dot product up to v.
use Rattle.std.proofs.Common.{refl}
use Rattle.words.specs.Sums.{sum_to}
use Rattle.words.specs.Stepped.{stepped}
use Rattle.words.proofs.Modular.{step_none, step_more}
use Rattle.dots.specs.Dot.{dot}
use Rattle.dots.proofs.Products.{product_more}
use Rattle.dots.proofs.dot.stepped_sum.Goals as goal

pub loop-v-init : goal.loop-v-init
unfolding dot sum_to
loop-v-init c =
    (step_none c.args.step_a c.ranges.from_a.fits, step_none c.args.step_b c.ranges.from_b.fits, refl)

pub loop-v-preserved : goal.loop-v-preserved
loop-v-preserved c =
    let s = c.args in
    let l = c.loop-v in (
      step_more s.from_a s.step_a l._v l.invariant.0 refl,
      step_more s.from_b s.step_b l._v l.invariant.1 refl,
      product_more s.a.now s.b.now (stepped s.from_a s.step_a) (stepped s.from_b s.step_b) l._v
          l.invariant.0 l.invariant.1 l.invariant.2 c.mul-sum.ensures,
    )
