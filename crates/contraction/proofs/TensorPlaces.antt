-- The tensors' places in arrays by tensor: each is below their count, and the tensor at a place has that place.
-- Assumes nothing.
use mathlib.Core.Path.{◌≡◌, refl, ap}
use mathlib.Core.List.{List}
use Prim.Native.Nat.{ℕ, zero, suc, ◌<◌}
use native.Mathlib.Omega.{arith}
use lib.ListN.{get_or}
use Rattle.contraction.specs.declared.contraction.Operand.{Operand}
use Rattle.contraction.specs.declared.contraction.Operand.TheVariants.{A, B, C, D}
use Rattle.contraction.specs.TensorPlaces.{tensor_count, operand_number, operand_at, by_tensor}

pub number_below : (o : Operand) → operand_number o < tensor_count
number_below A = omega arith
number_below B = omega arith
number_below C = omega arith
number_below D = omega arith

number_at : (n : ℕ) → n < tensor_count → operand_number (operand_at n) ≡ n
number_at zero h = refl
number_at (suc zero) h = refl
number_at (suc (suc zero)) h = refl
number_at (suc (suc (suc zero))) h = refl
number_at (suc (suc (suc (suc n)))) h = absurd (omega arith)

-- what stands at a place is the tensor's there
pub at_place : (xs : List ℕ) (n : ℕ) → n < tensor_count → by_tensor xs (operand_at n) ≡ get_or xs n 0
at_place xs n h = ap (λ (k : ℕ). get_or xs k 0) (number_at n h)
