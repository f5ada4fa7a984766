-- A tensor's place in arrays by tensor. Inside contracts only.
-- Assumes nothing.
use Rattle.std.specs.Prelude.{ℕ, List, get_or}
use Rattle.contraction.specs.Operands.{operands}
use Rattle.contraction.specs.declared.contraction.Operand.{Operand}
use Rattle.contraction.specs.declared.contraction.Operand.TheVariants.{A, B, C, D}

-- how many tensors there are
abbrev pub tensor_count : ℕ
tensor_count = 4

abbrev pub operand_number : Operand → ℕ
operand_number A = 0
operand_number B = 1
operand_number C = 2
operand_number D = 3

-- the tensor at a place
abbrev pub operand_at : ℕ → Operand
operand_at n = get_or operands n D

-- one number for each tensor, out of an array by tensor
abbrev pub by_tensor : List ℕ → Operand → ℕ
by_tensor xs o = get_or xs (operand_number o) 0
