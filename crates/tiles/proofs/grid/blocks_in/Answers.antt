-- `blocks_in` meets its contract: rounded up, the quotient is that of n + b - 1.
-- Assumes nothing.
use Rattle.std.proofs.Common.{◌≡◌, ℕ, ◌+◌, ◌-◌, ◌*◌, ◌/◌, ◌%◌, ◌<◌, min, add-zero, mod-lt, arith}
use native.Mathlib.Decide.{dec_lt}
use native.Mathlib.Nat.{div-add-mod, div-eq_of_lt, mul-add-div}
use Rattle.tiles.specs.Cut.{blocks}
use Rattle.tiles.proofs.grid.blocks_in.Goals as goal

quotient : (b q : ℕ) {v m : ℕ} → m ≡ b * q + v → v < b → m / b ≡ q
quotient b q {v} e h = rw (e, mul-add-div {m = b} (omega arith) q v, div-eq_of_lt h) (add-zero q)

rounded_up : (n b : ℕ) → 0 < b → n / b + min 1 (n % b) ≡ (n + b - 1) / b
rounded_up n b h = go (dec_lt 0 (n % b))
  where
    go : Dec (0 < n % b) → n / b + min 1 (n % b) ≡ (n + b - 1) / b
    go (yes p) = omega (arith, quotient b (n / b + 1) {v = n % b - 1} {m = n + b - 1} (omega (arith, div-add-mod n b)) (omega (arith, mod-lt n h)))
    go (no p) = omega (arith, quotient b (n / b) {v = b - 1} {m = n + b - 1} (omega (arith, div-add-mod n b)) (omega arith))

pub returns : goal.returns
unfolding blocks
returns c = rw (c.div_ceil.ensures) (rounded_up c.args.n c.args.b c.requires.0)
