-- The cases of carried addresses, by computation.
-- Assumes nothing.
use Rattle.std.proofs.Common.{refl}
use Rattle.odometer.specs.CarriedCases.{CarriedCases}

pub carried_cases : CarriedCases
carried_cases = record { index = refl; goes_up = refl; by_strides = refl; down = refl; standing = refl }
