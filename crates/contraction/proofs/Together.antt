-- A test at every axis of all tensors together.
-- Assumes nothing.
use mathlib.Core.Bool.{Bool}
use mathlib.Core.List.{◌++◌}
use lib.Dec.{T}
use Rattle.words.specs.Sums.{every}
use Rattle.words.proofs.Sums.{every_append}
use Rattle.layout.specs.declared.layout.Axis.{Axis}
use Rattle.contraction.specs.Operands.{Shape, together}
use Rattle.contraction.specs.declared.contraction.Operand.{Operand}
use Rattle.contraction.specs.declared.contraction.Operand.TheVariants.{A, B, C, D}

-- a test that passes at every axis of each tensor passes at every axis of all together
pub every_together : (p : Axis → Bool) (s : Shape) → ((o : Operand) → T (every p (s o))) → T (every p (together s))
unfolding together
every_together p s h =
    every_append p (s D) (s A ++ (s B ++ s C)) (h D) (every_append p (s A) (s B ++ s C) (h A) (every_append p (s B) (s C) (h B) (h C)))
