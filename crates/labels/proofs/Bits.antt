-- The letters of a set after `&`, `|` and `!`, and of a set of one bit: the bits of a number are those of its halves.
-- Assumes nothing.
use Rattle.std.proofs.Common.{◌≡◌, ℕ, zero, suc, ◌-◌, ◌*◌, ◌/◌, ◌%◌, ◌^◌, ◌<◌, ◌≤◌, min, max, Bool, true, false, not, ◌&&◌, ◌||◌, eqb, sym, refl, ap, ◌∙◌, mod-eq_of_lt, one-mul, pow-suc, arith, pow_pos, shr-shr, eqb-true}
use native.Mathlib.Nat.{min-le_left, max-le, zero-div}
use borrow.Author.Tests.{eqb-false}
use lib.Bits.{bit_and, bit_or, and_step, or_step, and_shr, or_shr}
use lib.Pow.{shl-shr, pow-lt}
use Rattle.labels.specs.LetterSets.{bit, has}

bit_suc : (n j : ℕ) → bit n (suc j) ≡ bit (n / 2) j
bit_suc n j = ap (λ (x : ℕ). n / 2 ^ x % 2) (omega arith) ∙ ap (λ (x : ℕ). x % 2) (sym (shr-shr n 1 j))

-- the operations on one bit each, 0 or 1
and_digit : (p q : ℕ) → p < 2 → q < 2 → eqb (min p q) 1 ≡ (eqb p 1 && eqb q 1)
and_digit zero zero h k = refl
and_digit zero (suc zero) h k = refl
and_digit (suc zero) zero h k = refl
and_digit (suc zero) (suc zero) h k = refl
and_digit zero (suc (suc q)) h k = absurd (omega arith)
and_digit (suc zero) (suc (suc q)) h k = absurd (omega arith)
and_digit (suc (suc p)) q h k = absurd (omega arith)

or_digit : (p q : ℕ) → p < 2 → q < 2 → eqb (max p q) 1 ≡ (eqb p 1 || eqb q 1)
or_digit zero zero h k = refl
or_digit zero (suc zero) h k = refl
or_digit (suc zero) zero h k = refl
or_digit (suc zero) (suc zero) h k = refl
or_digit zero (suc (suc q)) h k = absurd (omega arith)
or_digit (suc zero) (suc (suc q)) h k = absurd (omega arith)
or_digit (suc (suc p)) q h k = absurd (omega arith)

not_digit : (p : ℕ) → p < 2 → eqb (1 - p) 1 ≡ not (eqb p 1)
not_digit zero h = refl
not_digit (suc zero) h = refl
not_digit (suc (suc p)) h = absurd (omega arith)

bit_and_lem : (a b j : ℕ) → bit (bit_and a b) j ≡ min (bit a j) (bit b j)
bit_and_lem a b j =
    let x = a / 2 ^ j in
    let y = b / 2 ^ j in
    let d : bit_and x y % 2 ≡ min (x % 2) (y % 2) = omega (arith, and_step x y, min-le_left (x % 2) (y % 2)) in
    ap (λ (n : ℕ). n % 2) (and_shr a b j) ∙ d

bit_or_lem : (a b j : ℕ) → bit (bit_or a b) j ≡ max (bit a j) (bit b j)
bit_or_lem a b j =
    let x = a / 2 ^ j in
    let y = b / 2 ^ j in
    let h : max (x % 2) (y % 2) ≤ 1 = max-le (omega arith) (omega arith) in
    let d : bit_or x y % 2 ≡ max (x % 2) (y % 2) = omega (arith, or_step x y) in
    ap (λ (n : ℕ). n % 2) (or_shr a b j) ∙ d

-- the complement of a number of w bits
bit_not : (w a j : ℕ) → a < 2 ^ w → j < w → bit ((2 ^ w - 1) - a) j ≡ 1 - bit a j
bit_not zero a j h k = absurd (omega arith)
bit_not (suc w) a zero h k =
    let e = pow-suc 2 w in
    let p = pow_pos w in
    omega arith
bit_not (suc w) a (suc j) h k =
    let e = pow-suc 2 w in
    let p = pow_pos w in
    let half : ((2 ^ suc w - 1) - a) / 2 ≡ (2 ^ w - 1) - a / 2 = omega arith in
    bit_suc ((2 ^ suc w - 1) - a) j ∙ ap (λ (x : ℕ). bit x j) half ∙ bit_not w (a / 2) j (omega arith) (omega arith)
    ∙ ap (λ (x : ℕ). 1 - x) (sym (bit_suc a j))

-- one bit alone
bit_same : (k : ℕ) → bit (2 ^ k) k ≡ 1
bit_same k = ap (λ (x : ℕ). x / 2 ^ k % 2) (sym (one-mul (2 ^ k))) ∙ ap (λ (x : ℕ). x % 2) (shl-shr 1 k)

bit_zero : (j : ℕ) → bit 0 j ≡ 0
bit_zero j = ap (λ (x : ℕ). x % 2) (zero-div (2 ^ j))

bit_other : (k j : ℕ) → (j ≡ k → ⊥) → bit (2 ^ k) j ≡ 0
bit_other zero zero h = absurd (h refl)
bit_other zero (suc j) h = bit_suc 1 j ∙ bit_zero j
bit_other (suc k) zero h = let e = pow-suc 2 k in omega arith
bit_other (suc k) (suc j) h =
    let e = pow-suc 2 k in
    let half : 2 ^ suc k / 2 ≡ 2 ^ k = omega arith in
    bit_suc (2 ^ suc k) j ∙ ap (λ (x : ℕ). bit x j) half ∙ bit_other k j (λ q. h (ap suc q))

-- a letter is in both sets, in one of two sets, not in the set
pub has_and : (a b c : ℕ) → has (bit_and a b) c ≡ (has a c && has b c)
has_and a b c = rw (bit_and_lem a b (c % 64)) (and_digit (bit a (c % 64)) (bit b (c % 64)) (omega arith) (omega arith))

pub has_or : (a b c : ℕ) → has (bit_or a b) c ≡ (has a c || has b c)
has_or a b c = rw (bit_or_lem a b (c % 64)) (or_digit (bit a (c % 64)) (bit b (c % 64)) (omega arith) (omega arith))

pub has_not : (a c : ℕ) → a < 2 ^ 64 → has ((2 ^ 64 - 1) - a) c ≡ not (has a c)
has_not a c h = rw (bit_not 64 a (c % 64) h (omega arith)) (not_digit (bit a (c % 64)) (omega arith))

-- the empty set, and the set of one bit
pub has_none : (c : ℕ) → has 0 c ≡ false
has_none c = rw (bit_zero (c % 64))

pub has_one : (k c : ℕ) → has (2 ^ k) c ≡ eqb (c % 64) k
has_one k c = go (eqb (c % 64) k) refl
  where
    go : (b : Bool) → eqb (c % 64) k ≡ b → has (2 ^ k) c ≡ b
    go true e = rw (eqb-true (c % 64) k e, bit_same k)
    go false e = rw (bit_other k (c % 64) (eqb-false (c % 64) k e))

-- a one that is shifted below the width is that bit
pub shifted : (k : ℕ) → k < 64 → (1 * 2 ^ k) % 2 ^ 64 ≡ 2 ^ k
shifted k h = ap (λ (x : ℕ). x % 2 ^ 64) (one-mul (2 ^ k)) ∙ mod-eq_of_lt (pow-lt h)
