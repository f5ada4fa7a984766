-- Bounds of a label's extent and stride, from the tests that the axes passed. A label's extent is 1 or that of an axis; its stride is the
-- sum of the strides of at most all axes.
-- Assumes nothing.
use Rattle.std.proofs.Common.{◌≡◌, ℕ, ◌*◌, ◌^◌, ◌<◌, ◌≤◌, Bool, true, false, cond, T, eqb, leb, List, [], ◌∷◌, length, pos, nat_abs, arith, leb→le}
use Rattle.words.specs.Words.{up, down, word_of, signed}
use Rattle.words.proofs.Sums.{and_split}
use Rattle.words.proofs.Whole.{size_add, size_parts, signed_word}
use Rattle.limits.specs.Limits.{rank_limit, extent_limit, stride_limit}
use Rattle.layout.specs.declared.layout.Axis.{Axis}
use Rattle.layout.specs.declared.axes.Axes.{Axes}
use Rattle.layout.specs.Listed.{listed}
use Rattle.layout.proofs.Listed.{length_listed}
use Rattle.validity.specs.TensorQuestions.{extents_valid, strides_valid}
use Rattle.labels.specs.Labels.{stride_of, extent_of}

pub extents_bound : (xs : List Axis) → T (extents_valid xs) → (c : ℕ) → extent_of c xs ≤ extent_limit
unfolding extents_valid
extents_bound [] t c = omega arith
extents_bound (a ∷ xs) t c =
    let h = and_split (leb a.extent extent_limit) (extents_valid xs) t in
    go (eqb a.letter c) (leb→le a.extent extent_limit h.0) (extents_bound xs h.1 c)
  where
    go : (b : Bool) → a.extent ≤ extent_limit → extent_of c xs ≤ extent_limit → cond b a.extent (extent_of c xs) ≤ extent_limit
    go true l r = l
    go false l r = r

pub strides_bound : (xs : List Axis) → T (strides_valid xs) → (c : ℕ) → nat_abs (stride_of c xs) ≤ length xs * stride_limit
unfolding strides_valid
strides_bound [] t c = omega arith
strides_bound (a ∷ xs) t c =
    let h = and_split (leb (nat_abs a.stride) stride_limit) (strides_valid xs) t in
    let r : nat_abs (stride_of c xs) ≤ length xs * stride_limit = strides_bound xs h.1 c in
    let g : nat_abs (cond (eqb a.letter c) a.stride (pos 0)) ≤ stride_limit = go (eqb a.letter c) (leb→le (nat_abs a.stride) stride_limit h.0) in
    omega (arith, size_add (cond (eqb a.letter c) a.stride (pos 0)) (stride_of c xs))
  where
    go : (b : Bool) → nat_abs a.stride ≤ stride_limit → nat_abs (cond b a.stride (pos 0)) ≤ stride_limit
    go true l = l
    go false l = omega arith

module _ (x : Axes) (few : x.count ≤ rank_limit) (valid : T (strides_valid (listed x))) (c : ℕ) where
  pub small_stride : nat_abs (stride_of c (listed x)) < 2 ^ 28
  small_stride = omega (arith, strides_bound (listed x) valid c, length_listed x)

  -- a label's stride is what its address word reads as
  pub signed_stride : signed 64 (word_of 64 (stride_of c (listed x))) ≡ stride_of c (listed x)
  signed_stride = signed_word (stride_of c (listed x)) (omega (arith, small_stride))

  pub small_up : up (stride_of c (listed x)) < 2 ^ 32
  small_up = omega (arith, small_stride, size_parts (stride_of c (listed x)))

  pub small_down : down (stride_of c (listed x)) < 2 ^ 32
  small_down = omega (arith, small_stride, size_parts (stride_of c (listed x)))
