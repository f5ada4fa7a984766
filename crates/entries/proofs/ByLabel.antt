-- Sums along the axes of a tensor are sums over its labels: a repeated letter counts once, with the sum of its strides.
-- Assumes nothing.
use mathlib.Core.Path.{◌≡◌, refl, ap, ap₂, sym, ◌∙◌}
use mathlib.Core.Bool.{true, cond}
use mathlib.Core.List.{List, [], ◌∷◌}
use Prim.Native.Nat.{ℕ, ◌+◌, ◌*◌}
use native.Mathlib.Nat.{mul-zero, mul-add}
use native.Mathlib.Omega.{arith}
use lib.IntN.{ℤ}
use lib.Dec.{eqb}
use Rattle.words.specs.Sums.{sum_of, All}
use Rattle.words.specs.Lists.{member}
use Rattle.words.specs.Words.{up, down}
use Rattle.words.proofs.Lists.{Unique, distinct_unique, all_imp, member_distinct, covers, sum_of_single}
use Rattle.words.proofs.Sums.{sum_of_ext, sum_of_add, sum_of_zero}
use Rattle.layout.specs.declared.layout.Axis.{Axis}
use Rattle.layout.specs.Layout.{letters_of, along}
use Rattle.labels.specs.Labels.{stride_of, labels}
use Rattle.entries.proofs.Stride.{part_of, stride_of_parts}

-- no label stands twice, and the letter of every axis is a label
pub labels_unique : (xs : List Axis) → Unique (labels xs)
unfolding labels
labels_unique xs = distinct_unique (letters_of xs)

pub labels_cover : (xs : List Axis) → All (λ a. member a.letter (labels xs) ≡ true) xs
unfolding labels
labels_cover xs = all_imp (λ a. member_distinct a.letter (letters_of xs)) xs (covers (λ a. a.letter) xs)

by_letter : (part : ℤ → ℕ) (xs : List Axis) (ρ : ℕ → ℕ) (cs : List ℕ) → Unique cs → All (λ a. member a.letter cs ≡ true) xs
    → along part xs ρ ≡ sum_of (λ c. ρ c * part_of part xs c) cs
by_letter part [] ρ cs u m = sym (sum_of_ext (λ c. mul-zero (ρ c)) cs ∙ sum_of_zero cs)
by_letter part (a ∷ xs) ρ cs u m =
    sym (sum_of_ext (λ c. mul-add (ρ c) _ _) cs ∙ sum_of_add (λ c. ρ c * cond (eqb a.letter c) (part a.stride) 0) (λ c. ρ c * part_of part xs c) cs
    ∙ ap₂ ◌+◌ (sum_of_single a.letter (part a.stride) ρ cs u m.0) (sym (by_letter part xs ρ cs u m.1)))

-- Σ over the labels of the index × a part of the stride
abbrev pub over : (ℤ → ℕ) → List Axis → (ℕ → ℕ) → ℕ
over part xs ρ = sum_of (λ c. ρ c * part (stride_of c xs)) (labels xs)

module _ (xs : List Axis) (ρ : ℕ → ℕ) where
  parts : (cs : List ℕ) → sum_of (λ c. ρ c * up (stride_of c xs)) cs + sum_of (λ c. ρ c * part_of down xs c) cs
      ≡ sum_of (λ c. ρ c * down (stride_of c xs)) cs + sum_of (λ c. ρ c * part_of up xs c) cs
  parts [] = refl
  parts (c ∷ cs) = omega (arith, parts cs, ap (λ (x : ℕ). ρ c * x) (stride_of_parts c xs))

  by_label : (part : ℤ → ℕ) → along part xs ρ ≡ sum_of (λ c. ρ c * part_of part xs c) (labels xs)
  by_label part = by_letter part xs ρ (labels xs) (labels_unique xs) (labels_cover xs)

  -- by axes or by labels, the two parts differ alike
  pub axes_labels : along up xs ρ + over down xs ρ ≡ along down xs ρ + over up xs ρ
  axes_labels = omega (arith, by_label up, by_label down, parts (labels xs))
