-- The word of the sum of a letter's strides, axis by axis: with one axis more, where the axes passed their test.
-- Assumes nothing.
use Rattle.std.proofs.Common.{◌≡◌, ℕ, ◌+◌, ◌*◌, ◌%◌, ◌^◌, ◌<◌, ◌≤◌, cond, T, eqb, leb, List, [], ◌∷◌, ◌++◌, length, get_or, take, ℤ, pos, ◌+ℤ◌, nat_abs, sym, ap, ◌∙◌, arith, leb→le, length-take-le, w32, to_z, of_z}
use Rattle.std.proofs.Math.IntN.{+ℤ_assoc, +ℤ_comm, +ℤ_idr}
use Rattle.std.proofs.lemmas.List.{take_more}
use Rattle.std.proofs.lemmas.Int.{fits_signed_from_abs}
use mir.ValLaws.{to_z-of_z}
use Rattle.words.proofs.Lists.{eqb_self, eqb_ne}
use Rattle.words.proofs.Sums.{every_at, every_take}
use Rattle.words.specs.Words.{word_of}
use Rattle.words.proofs.Whole.{word_add}
use Rattle.limits.specs.Limits.{rank_limit, stride_limit}
use Rattle.layout.specs.declared.layout.Axis.{Axis}
use Rattle.layout.specs.Layout.{no_axis}
use Rattle.validity.specs.TensorQuestions.{strides_valid}
use Rattle.labels.specs.Labels.{stride_of}
use Rattle.labels.proofs.Facts.{strides_bound}

-- one axis more behind them
stride_behind : (c : ℕ) (xs : List Axis) (a : Axis) → stride_of c (xs ++ a ∷ []) ≡ stride_of c xs +ℤ cond (eqb a.letter c) a.stride (pos 0)
stride_behind c [] a = +ℤ_comm (cond (eqb a.letter c) a.stride (pos 0)) (pos 0)
stride_behind c (b ∷ xs) a = rw (stride_behind c xs a) (sym (+ℤ_assoc (cond (eqb b.letter c) b.stride (pos 0)) (stride_of c xs) (cond (eqb a.letter c) a.stride (pos 0))))

-- of the first axes, which passed their test: what the sum of their strides is with the next one, and that it fits
module _ (xs : List Axis) (valid : T (strides_valid xs)) (few : length xs ≤ rank_limit) (c i : ℕ) (h : i < length xs) where
  pub stride_next : stride_of c (take (i + 1) xs) ≡ stride_of c (take i xs) +ℤ cond (eqb (get_or xs i no_axis).letter c) (get_or xs i no_axis).stride (pos 0)
  stride_next = ap (stride_of c) (take_more xs i no_axis h) ∙ stride_behind c (take i xs) (get_or xs i no_axis)

  stride_small : nat_abs (get_or xs i no_axis).stride ≤ stride_limit
  unfolding strides_valid
  stride_small = leb→le _ _ (every_at (λ a. leb (nat_abs a.stride) stride_limit) xs i no_axis valid h)

  sum_small : nat_abs (stride_of c (take i xs)) ≤ rank_limit * stride_limit
  unfolding strides_valid
  sum_small = omega (arith, strides_bound (take i xs) (every_take (λ a. leb (nat_abs a.stride) stride_limit) i xs valid) c, length-take-le i xs (omega arith))

  -- the stride as the code has it
  held_stride : to_z w32 (of_z w32 (get_or xs i no_axis).stride) ≡ (get_or xs i no_axis).stride
  held_stride = let s = (get_or xs i no_axis).stride in to_z-of_z w32 s (fits_signed_from_abs w32 s (omega (arith, stride_small)))

  pub sum_next : (sum r : ℕ) → sum ≡ word_of 64 (stride_of c (take i xs)) → r ≡ word_of 64 (to_z w32 (of_z w32 (get_or xs i no_axis).stride))
      → (get_or xs i no_axis).letter ≡ c → (sum + r) % 2 ^ 64 ≡ word_of 64 (stride_of c (take (i + 1) xs))
  sum_next sum r e f l =
      rw (e, f, held_stride, stride_next, l, eqb_self c)
      (word_add (stride_of c (take i xs)) (get_or xs i no_axis).stride (omega (arith, sum_small)) (omega (arith, stride_small)))

  pub sum_other : ((get_or xs i no_axis).letter ≡ c → ⊥) → stride_of c (take i xs) ≡ stride_of c (take (i + 1) xs)
  sum_other ne = rw (stride_next, eqb_ne (get_or xs i no_axis).letter c ne) (sym (+ℤ_idr (stride_of c (take i xs))))
