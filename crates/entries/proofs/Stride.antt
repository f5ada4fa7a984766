-- The two parts of a label's stride, which is the sum of the strides of its letter: they differ as the sums of the parts do.
-- Assumes nothing.
use mathlib.Core.Path.{◌≡◌, refl}
use mathlib.Core.Bool.{Bool, true, false, cond}
use mathlib.Core.List.{List, [], ◌∷◌}
use Prim.Native.Nat.{ℕ, ◌+◌}
use native.Mathlib.Omega.{arith}
use lib.IntN.{ℤ, pos, ◌+ℤ◌}
use lib.Dec.{eqb}
use Rattle.words.specs.Sums.{sum_of}
use Rattle.words.specs.Words.{up, down}
use Rattle.words.proofs.Whole.{add_parts}
use Rattle.layout.specs.declared.layout.Axis.{Axis}
use Rattle.labels.specs.Labels.{stride_of}

-- Σ over the axes of a letter of a part of the stride
abbrev pub part_of : (ℤ → ℕ) → List Axis → ℕ → ℕ
part_of part xs c = sum_of (λ a. cond (eqb a.letter c) (part a.stride) 0) xs

pub stride_of_parts : (c : ℕ) (xs : List Axis) → up (stride_of c xs) + part_of down xs c ≡ down (stride_of c xs) + part_of up xs c
stride_of_parts c [] = refl
stride_of_parts c (a ∷ xs) = go (eqb a.letter c) (stride_of_parts c xs)
  where
    go : (b : Bool) → up (stride_of c xs) + part_of down xs c ≡ down (stride_of c xs) + part_of up xs c
        → up (cond b a.stride (pos 0) +ℤ stride_of c xs) + (cond b (down a.stride) 0 + part_of down xs c)
        ≡ down (cond b a.stride (pos 0) +ℤ stride_of c xs) + (cond b (up a.stride) 0 + part_of up xs c)
    go true e = omega (arith, add_parts a.stride (stride_of c xs))
    go false e = omega (arith, add_parts (pos 0) (stride_of c xs))
