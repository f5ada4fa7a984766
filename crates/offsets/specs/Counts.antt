-- How far a count of a group goes in a tensor. The first label runs fastest.
-- Assumes nothing.
use Rattle.std.specs.Prelude.{ℕ, ◌+◌, ◌*◌, ◌/◌, ◌%◌, List, [], ◌∷◌, ℤ}
use Rattle.contraction.specs.declared.contraction.Operand.{Operand}
use Rattle.groups.specs.Groups.{Label}

-- Σ digit × weight over the labels of a group at a count: the weight of a label is a part of its stride in a tensor
abbrev pub offset : (Label → ℕ) → List Label → ℕ → ℕ
offset w [] n = 0
offset w (l ∷ g) n = n % l.extent * w l + offset w g (n / l.extent)

-- the offset of a count of a group in a tensor: up, down or as address words
abbrev pub offset_in : (ℤ → ℕ) → Operand → List Label → ℕ → ℕ
offset_in part o = offset (λ l. part (l.stride o))
