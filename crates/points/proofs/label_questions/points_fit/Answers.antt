-- `points_fit` meets its contract: a factor more, cut to just above the limit, and the test of what was cut.
-- Assumes nothing.
use Rattle.std.proofs.Common.{◌≡◌, ℕ, ◌+◌, ◌*◌, ◌≤◌, ◌<◌, min, max, Bool, true, false, not, T, leb, get_or, take, take_all, arith, leb→le, mul-le-mul}
use lib.Dec.{nleb→lt}
use native.Mathlib.Nat.{min-eq_left, min-eq_right, mul-le-mul_left, le-max_left, max_comm}
use borrow.Author.Tests.{le-leb, lt-leb}
use Rattle.std.proofs.lemmas.List.{take_more}
use Rattle.words.proofs.Sums.{product_behind}
use Rattle.limits.specs.Limits.{product_limit}
use Rattle.labels.specs.Labels.{extent_of}
use Rattle.contraction.specs.Operands.{together}
use Rattle.contraction.specs.TensorAxes.{shape_of}
use Rattle.points.specs.LabelQuestions.{points, points_fit}
use Rattle.points.proofs.label_questions.points_fit.Goals as goal

-- a product that was cut to k, cut to k again
cut_product : (k e p : ℕ) → 1 ≤ e → min (min p k * e) k ≡ min (p * e) k
cut_product k e p h = go (leb k p) (leb→le k p) (nleb→lt k p)
  where
    go : (b : Bool) → (T b → k ≤ p) → (T (not b) → p < k) → min (min p k * e) k ≡ min (p * e) k
    go true f g =
        let l : k ≤ p = f tt in
        let m : k * 1 ≤ k * e = mul-le-mul_left k h in
        let n : p * 1 ≤ p * e = mul-le-mul_left p h in
        let a : k ≤ k * e = omega arith in
        let b : k ≤ p * e = omega arith in
        rw (min-eq_right l, min-eq_right a, min-eq_right b)
    go false f g =
        let l : p ≤ k = omega (arith, g tt) in
        rw (min-eq_left l)

-- a product that was cut to just above k passes the test as it does
cut_test : (k p : ℕ) → leb (min p (k + 1)) k ≡ leb p k
cut_test k p = go (leb p k) (leb→le p k) (nleb→lt p k)
  where
    go : (b : Bool) → (T b → p ≤ k) → (T (not b) → k < p) → leb (min p (k + 1)) k ≡ b
    go true f g =
        let l : p ≤ k = f tt in
        let m : p ≤ k + 1 = omega arith in
        rw (min-eq_left m) (le-leb p k l)
    go false f g =
        let l : k + 1 ≤ p = omega (arith, g tt) in
        rw (min-eq_right l) (lt-leb (k + 1) k (omega arith))

pub overflow_mul-product : goal.overflow_mul-product
overflow_mul-product c =
    let p : c.loop-c.product ≤ product_limit + 1 = omega (arith, c.loop-c.invariant) in
    let r : c.from-in-loop-c.result ≤ 4294967296 = omega (arith, c.max.ensures, c.extent-extent.type_inv) in
    omega (arith, mul-le-mul p r)

pub loop-c-preserved : goal.loop-c-preserved
loop-c-preserved c =
    let l = c.loop-c in
    let letters = c.as_slice-letters.result.now in
    let d = get_or letters l.c-index 0 in
    let n = extent_of d (together (shape_of c.args.x.now)) in
    let f = λ (e : ℕ). max 1 (extent_of e (together (shape_of c.args.x.now))) in
    rw (
      take_more letters l.c-index 0 (omega arith),
      product_behind f (take l.c-index letters) d,
      c.min-product.ensures,
      c.from-in-loop-c.ensures,
      c.max.ensures,
      c.extent-extent.ensures,
      c.from.ensures,
      l.invariant,
      max_comm n 1,
    )
    (cut_product (product_limit + 1) (max 1 n) _ (le-max_left 1 n))

pub returns : goal.returns
unfolding points_fit points
returns c =
    let l = c.loop-c in
    let letters = c.as_slice-letters.result.now in
    rw (l.invariant, take_all l.c-index letters (omega arith), c.as_slice-letters.ensures, c.args.x.now.gathered.all.spells) (cut_test product_limit (points (together (shape_of c.args.x.now))))
