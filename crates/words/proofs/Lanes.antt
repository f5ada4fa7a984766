-- A block of lanes, one after the other, each as wide: a lane is inside the block.
-- Assumes nothing.
use Rattle.std.proofs.Common.{ℕ, ◌+◌, ◌*◌, ◌<◌, ◌≤◌, lt_of_lt_of_le, mul-le-mul_left, mul-suc, arith}

-- lane d ends inside the block
pub lane_inside : (width : ℕ) {d filled depth size : ℕ} → d < filled → filled ≤ depth → width * depth ≤ size → width * d + width ≤ size
lane_inside width {d} h k fits = omega (arith, mul-le-mul_left width (lt_of_lt_of_le h k), mul-suc width d)
