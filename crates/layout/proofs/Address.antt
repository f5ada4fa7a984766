-- The address of an entry: the whole number base + Σ index × stride where that is 0 or more; the base at the index 0, 0, ..; and the same at
-- indices that agree at the letters.
-- Assumes nothing.
use mathlib.Core.Path.{◌≡◌, refl, ap, ◌∙◌}
use mathlib.Core.List.{List, [], ◌∷◌}
use Prim.Native.Nat.{ℕ, ◌+◌, ◌-◌, ◌≤◌}
use native.Mathlib.Nat.{zero-mul}
use native.Mathlib.Omega.{arith}
use lib.IntN.{ℤ, pos, negsuc, ◌*ℤ◌}
use Rattle.words.specs.Sums.{All}
use Rattle.words.specs.Words.{up, down}
use Rattle.words.proofs.Sums.{sum_of_ext, sum_of_zero}
use Rattle.words.proofs.Whole.{add_parts, up_mul, down_mul}
use Rattle.layout.specs.declared.layout.Axis.{Axis}
use Rattle.layout.specs.declared.layout.Layout.{Layout}
use Rattle.layout.specs.Layout.{axes, along, address, shift, signed_address}

-- ---- as a whole number

from_parts : (x : ℤ) (a b : ℕ) → up x + b ≡ down x + a → b ≤ a → x ≡ pos (a - b)
from_parts (pos n) a b e h = ap pos (omega arith)
from_parts (negsuc n) a b e h = absurd (omega arith)

shift_parts : (xs : List Axis) (ρ : ℕ → ℕ) → up (shift xs ρ) + along down xs ρ ≡ down (shift xs ρ) + along up xs ρ
shift_parts [] ρ = refl
shift_parts (a ∷ xs) ρ =
    omega (arith, shift_parts xs ρ, add_parts (pos (ρ a.letter) *ℤ a.stride) (shift xs ρ), up_mul (ρ a.letter) a.stride, down_mul (ρ a.letter) a.stride)

pub signed_address_lem : (l : Layout) (ρ : ℕ → ℕ) → along down (axes l) ρ ≤ l.base + along up (axes l) ρ → signed_address l ρ ≡ pos (address l ρ)
unfolding signed_address address
signed_address_lem l ρ h = from_parts _ _ _ (omega (arith, shift_parts (axes l) ρ, add_parts (pos l.base) (shift (axes l) ρ))) h

-- ---- by the index

pub along_zero : (part : ℤ → ℕ) (xs : List Axis) → along part xs (λ c. 0) ≡ 0
along_zero part xs = sum_of_ext (λ a. zero-mul (part a.stride)) xs ∙ sum_of_zero xs

pub along_agree : (part : ℤ → ℕ) (xs : List Axis) (ρ σ : ℕ → ℕ) → All (λ a. ρ a.letter ≡ σ a.letter) xs → along part xs ρ ≡ along part xs σ
along_agree part [] ρ σ h = refl
along_agree part (a ∷ xs) ρ σ h = rw (h.0, along_agree part xs ρ σ h.1)

-- indices that agree at the letters of a tensor have one address there
pub address_agree : (l : Layout) (ρ σ : ℕ → ℕ) → All (λ a. ρ a.letter ≡ σ a.letter) (axes l) → address l ρ ≡ address l σ
unfolding address
address_agree l ρ σ h = rw (along_agree up (axes l) ρ σ h, along_agree down (axes l) ρ σ h)
