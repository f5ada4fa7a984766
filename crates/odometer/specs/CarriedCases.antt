-- The addresses that are carried along a label of extent 2 and one of extent 3 behind it.
-- Assumes nothing.
use Rattle.std.specs.Prelude.{◌≡◌, List, [], ◌∷◌, ℤ, pos, negsuc}
use Rattle.words.specs.Lists.{tabulate}
use Rattle.contraction.specs.declared.contraction.Operand.TheVariants.{C}
use Rattle.groups.specs.Groups.{Label}
use Rattle.odometer.specs.Carried.{digits, rising, carried}

-- with strides s and t
abbrev pair : ℤ → ℤ → List Label
pair s t = record { letter = 105; extent = 2; stride = λ o. s } ∷ record { letter = 106; extent = 3; stride = λ o. t } ∷ []

pub record CarriedCases : Type 0 where
  -- "move each by strides as the index advances, first label fastest"
  pub index : tabulate 4 (digits (pair (pos 1) (pos 10))) ≡ (0 ∷ 0 ∷ []) ∷ (1 ∷ 0 ∷ []) ∷ (0 ∷ 1 ∷ []) ∷ (1 ∷ 1 ∷ []) ∷ []
  pub goes_up : tabulate 4 (rising (pair (pos 1) (pos 10))) ≡ 0 ∷ 1 ∷ 0 ∷ 1 ∷ []
  pub by_strides : tabulate 6 (carried C 100 (pair (pos 1) (pos 10))) ≡ 100 ∷ 101 ∷ 110 ∷ 111 ∷ 120 ∷ 121 ∷ []
  pub down : tabulate 6 (carried C 100 (pair (pos 1) (negsuc 9))) ≡ 100 ∷ 101 ∷ 90 ∷ 91 ∷ 80 ∷ 81 ∷ []
  pub standing : tabulate 6 (carried C 100 (pair (pos 0) (pos 10))) ≡ 100 ∷ 100 ∷ 110 ∷ 110 ∷ 120 ∷ 120 ∷ []
