-- A count of two digits: the lowest digit, the rest, and their bounds.
-- Assumes nothing.
use Rattle.std.proofs.Common.{◌≡◌, ℕ, zero, suc, ◌+◌, ◌*◌, ◌/◌, ◌%◌, ◌<◌, ◌∙◌, add-zero, mod-eq_of_lt, div-lt_iff_lt-mul, arith}
use native.Mathlib.Nat.{div-eq_of_lt, mul-add-mod_self_left, mul-add-div}

pub pos_left : (a b n : ℕ) → n < a * b → 0 < a
pos_left zero b n h = omega arith
pos_left (suc a) b n h = omega arith

pub pos_right : (a b : ℕ) → 0 < a * b → 0 < b
pos_right a zero h = omega arith
pos_right a (suc b) h = omega arith

pub div_below : (n a b : ℕ) → n < a * b → n / a < b
div_below n a b h = (div-lt_iff_lt-mul (pos_left a b n h)).1 (omega arith)

pub lowest : (e q : ℕ) {v : ℕ} → v < e → (e * q + v) % e ≡ v
lowest e q {v} h = mul-add-mod_self_left e q v ∙ mod-eq_of_lt h

pub rest : (e q : ℕ) {v : ℕ} → v < e → (e * q + v) / e ≡ q
rest e q {v} h = rw (mul-add-div {m = e} (omega arith) q v, div-eq_of_lt h) (add-zero q)
