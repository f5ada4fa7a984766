-- Labels whose numbers fit the code's words. Inside contracts only.
-- Assumes nothing.
use Rattle.std.specs.Prelude.{ℕ, ◌^◌, ◌≤◌, ◌<◌, max, List, nat_abs}
use Rattle.words.specs.Sums.{product, All}
use Rattle.limits.specs.Limits.{product_limit}
use Rattle.contraction.specs.declared.contraction.Operand.{Operand}
use Rattle.groups.specs.Groups.{Label}

-- a label whose strides times a 32-bit extent fit 64 bits
pub record Small (l : Label) : Type 0 where
  pub strides : (o : Operand) → nat_abs (l.stride o) < 2 ^ 30

-- the product of the extents as question 7 counts it: an extent 0 counts as 1
abbrev pub points_in : List Label → ℕ
points_in g = product (λ l. max 1 l.extent) g

-- labels whose joined extents fit 32 bits, and their strides 64
pub record Foldable (g : List Label) : Type 0 where
  pub strides : All Small g
  pub points : points_in g ≤ product_limit
