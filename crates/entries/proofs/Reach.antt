-- How far one label reaches: its last index times the size of its stride.
-- Assumes nothing.
use Prim.Native.Nat.{ℕ, ◌*◌, ◌-◌, ◌^◌, ◌≤◌, ◌<◌}
use native.Mathlib.Nat.{mul-le-mul}
use native.Mathlib.Omega.{arith}
use Rattle.limits.specs.Limits.{extent_limit}

pub reach_lt : (extent size : ℕ) → extent ≤ extent_limit → size < 2 ^ 32 → (extent - 1) * size < 2 ^ 48
reach_lt extent size h k =
    let low : extent - 1 ≤ 65535 = omega arith in
    let top : size ≤ 4294967295 = omega arith in
    let both : (extent - 1) * size ≤ 65535 * 4294967295 = mul-le-mul low top in
    omega arith
