-- The fewest decimal digits of a number, as the library counts and spells them, are those of `decimal`: both drop the last digit and go on with a tenth.
-- Assumes nothing.
use mathlib.Core.Path.{◌≡◌, refl, ap, ◌∙◌}
use mathlib.Core.Bool.{Bool, true, false, cond}
use mathlib.Core.List.{List, [], ◌∷◌, ◌++◌}
use Prim.Native.Nat.{ℕ, zero, suc, ◌-◌, ◌/◌, ◌%◌, ◌^◌, ◌≤◌, ◌<◌}
use native.Mathlib.Nat.{one-le-pow, mod-eq_of_lt}
use native.Mathlib.Omega.{arith}
use borrow.Author.Tests.{ltb-true, ltb-false, lt-ltb}
use lib.Dec.{ltb}
use lib.ListN.{length, take, length-append}
use Rattle.io.specs.Digits.{last_digits, IsDigitCount}
use Rattle.report.specs.Text.{digits_of, decimal, digit, word_line, tiles_line}

pow_pred : (k : ℕ) → 10 ^ (suc k - 1) ≡ 10 ^ k
pow_pred k = ap (λ (e : ℕ). 10 ^ e) (omega arith)

-- a number below 10 has one digit, itself
one_digit : (n k : ℕ) → n < 10 → IsDigitCount 10 1 n k → last_digits 10 k n ≡ digit n ∷ []
one_digit n zero h f = absurd (omega arith)
one_digit n (suc zero) h f = rw (mod-eq_of_lt h, lt-ltb n 10 h)
one_digit n (suc (suc k)) h f = absurd (omega (arith, f.2 (omega arith), pow_pred (suc k), one-le-pow k 10 (omega arith)))

-- the tenth of one of 10 or more has one digit less
tenth : (n k : ℕ) → 10 ≤ n → IsDigitCount 10 1 n (suc k) → IsDigitCount 10 1 (n / 10) k
tenth n zero h f = absurd (omega arith)
tenth n (suc k) h f = (omega arith, omega arith, λ g. omega (arith, f.2 (omega arith), pow_pred k, pow_pred (suc k)))

-- the library's digits of a number below a power of ten are those of `digits_of`
pub spelled : (m n k : ℕ) → n < 10 ^ suc m → IsDigitCount 10 1 n k → last_digits 10 k n ≡ digits_of m n
unfolding digits_of
spelled zero n k h f = one_digit n k (omega arith) f
spelled (suc m) n zero h f = absurd (omega arith)
spelled (suc m) n (suc k) h f = go (ltb n 10) refl (spelled m (n / 10) k)
  where
    go : (b : Bool) → ltb n 10 ≡ b → (n / 10 < 10 ^ suc m → IsDigitCount 10 1 (n / 10) k → last_digits 10 k (n / 10) ≡ digits_of m (n / 10))
        → last_digits 10 (suc k) n ≡ cond b (digit n ∷ []) (digits_of m (n / 10) ++ digit (n % 10) ∷ [])
    go true e r = one_digit n (suc k) (ltb-true n 10 e) f
    go false e r = rw (r (omega arith) (tenth n k (ltb-false n 10 e) f), lt-ltb (n % 10) 10 (omega arith))

pub spelled_decimal : (n : ℕ) (xs : List ℕ) {k : ℕ} → n < 2 ^ 64 → IsDigitCount 10 1 n k → take k xs ≡ last_digits 10 k n → take k xs ≡ decimal n
spelled_decimal n xs {k} h f e = e ∙ spelled 19 n k (omega arith) f

-- where a number of 10 or more is below a power of ten, its tenth is below the power before
lower : (n k : ℕ) → 10 ≤ n → n < 10 ^ suc k → (1 ≤ k) × (n / 10 < 10 ^ k)
lower n zero h l = absurd (omega arith)
lower n (suc k) h l = (omega arith, omega arith)

-- a number below a power of ten has no more digits than the power
pub length_digits : (m n k : ℕ) → 1 ≤ k → n < 10 ^ k → length (digits_of m n) ≤ k
unfolding digits_of
length_digits zero n k h l = h
length_digits (suc m) n zero h l = absurd (omega arith)
length_digits (suc m) n (suc k) h l = go (ltb n 10) refl (length_digits m (n / 10) k)
  where
    go : (b : Bool) → ltb n 10 ≡ b → (1 ≤ k → n / 10 < 10 ^ k → length (digits_of m (n / 10)) ≤ k)
        → length (cond b (digit n ∷ []) (digits_of m (n / 10) ++ digit (n % 10) ∷ [])) ≤ suc k
    go true e r = h
    go false e r = let q = lower n k (ltb-false n 10 e) l in simp length-append (omega (arith, r q.0 q.1))

pub length_decimal32 : (n : ℕ) → n < 2 ^ 32 → length (decimal n) ≤ 10
length_decimal32 n h = length_digits 19 n 10 (omega arith) (omega arith)

pub length_decimal64 : (n : ℕ) → n < 2 ^ 64 → length (decimal n) ≤ 20
length_decimal64 n h = length_digits 19 n 20 (omega arith) (omega arith)

pub length_word : (word letter : ℕ) → word < 2 ^ 32 → length (word_line word letter) ≤ 13
unfolding word_line
length_word word letter h = simp length-append (omega (arith, length_decimal32 word h))

pub length_tiles : (t total : ℕ) → t < 2 ^ 64 → total < 2 ^ 64 → length (tiles_line t total) ≤ 64
unfolding tiles_line
length_tiles t total h k = simp length-append (omega (arith, length_decimal64 t h, length_decimal64 total k))
