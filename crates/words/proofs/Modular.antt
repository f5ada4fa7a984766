-- Words of any width: to reduce a part first changes nothing. Address words one step after the other: none at first, and one step more; words that are one
-- address apart do not wrap inside a slice.
-- Assumes nothing.
use Rattle.std.proofs.Common.{◌≡◌, ℕ, suc, ◌+◌, ◌-◌, ◌*◌, ◌/◌, ◌%◌, ◌^◌, ◌<◌, ◌≤◌, sym, ap, ◌∙◌, lt_of_le_of_lt, le_of_lt, mul_comm, add-mul, mul-le-mul_left, mul-lt-mul_of_pos_right, div-add-mod', mul-one, arith, pow_pos, pow-add}
use mathlib.Core.Path.{subst⁻¹}
use native.Mathlib.Nat.{mod-mod, add-mod-mod, mod-add-mod, mul-add-mod_self_right}
use Rattle.words.specs.Words.{word}
use Rattle.words.specs.Loops.{Within}
use Rattle.words.specs.Stepped.{stepped}
use Rattle.words.specs.Sums.{sum_to}

mul_mod_left : (a b m : ℕ) → (a % m * b) % m ≡ (a * b) % m
mul_mod_left a b m =
    let e : (a / m * m + a % m) * b ≡ a / m * b * m + a % m * b = omega arith in
    sym (ap (λ (x : ℕ). x * b % m) (sym (div-add-mod' a m)) ∙ ap (λ (x : ℕ). x % m) e ∙ mul-add-mod_self_right (a / m * b) m (a % m * b))

module _ (w : ℕ) where
  pub word_word : (a : ℕ) → word w (word w a) ≡ word w a
  word_word a = mod-mod a _

  pub word_add_left : (a b : ℕ) → word w (word w a + b) ≡ word w (a + b)
  word_add_left a b = mod-add-mod a _ b

  pub word_add_right : (a b : ℕ) → word w (a + word w b) ≡ word w (a + b)
  word_add_right a b = add-mod-mod a b _

  pub word_mul_left : (a b : ℕ) → word w (word w a * b) ≡ word w (a * b)
  word_mul_left a b = mul_mod_left a b _

  pub word_mul_right : (a b : ℕ) → word w (a * word w b) ≡ word w (a * b)
  word_mul_right a b = ap (word w) (mul_comm a (word w b)) ∙ word_mul_left b a ∙ ap (word w) (mul_comm b a)

  -- a turn of a loop that sums words
  pub word_sum : (n : ℕ) (f : ℕ → ℕ) → word w (word w (sum_to n f) + word w (f n)) ≡ word w (sum_to (suc n) f)
  unfolding sum_to
  word_sum n f = word_add_left (sum_to n f) (word w (f n)) ∙ word_add_right (sum_to n f) (f n)

-- the product of two words fits twice the width
pub product_lt : (k : ℕ) {a b : ℕ} → a < 2 ^ k → b < 2 ^ k → a * b < 2 ^ (k + k)
product_lt k {a} {b} ha hb =
    subst⁻¹ (λ (n : ℕ). a * b < n) (pow-add 2 k k)
    (lt_of_le_of_lt (mul-le-mul_left a (le_of_lt hb)) (mul-lt-mul_of_pos_right ha (pow_pos k)))

-- ---- steps

pub step_none : {x : ℕ} (s : ℕ) → x < 2 ^ 64 → x ≡ stepped x s 0
step_none s h = omega arith

pub step_more : (x s v : ℕ) {i r : ℕ} → i ≡ stepped x s v → r ≡ word 64 (i + s) → r ≡ stepped x s (v + 1)
step_more x s v e q = omega arith

-- j steps from a place that is k steps on
pub steps_add : (x y s k j : ℕ) → stepped (word 64 (x + stepped y s k)) s j ≡ stepped (word 64 (x + y)) s (k + j)
steps_add x y s k j = omega (arith, add-mul k j s)

-- the first of n address words that are inside a slice
pub first_inside : {x n len : ℕ} (s : ℕ) → x < 2 ^ 64 → 1 ≤ n → Within n (stepped x s) len → x < len
first_inside {x} s low some w = rw (← step_none {x = x} s low) at (w.each 0 (omega arith))

-- and the second
pub second_place : (x s : ℕ) → word 64 (x + s) ≡ stepped x s 1
second_place x s = omega arith

pub second_inside : (x s : ℕ) {n len y : ℕ} → Within n (stepped x s) len → 2 ≤ n → y ≡ word 64 (x + s) → y < len
second_inside x s w two e = rw (e ∙ second_place x s) (w.each 1 (omega arith))

-- n words of step 1 inside a slice stand one after the other
module _ {x n len : ℕ} (low : x < 2 ^ 64) (some : 1 ≤ n) (few : n < 2 ^ 32) (short : len < 2 ^ 63) (inside : Within n (stepped x 1) len) where
  pub row_inside : x + n ≤ len
  row_inside =
      let last : word 64 (x + (n - 1) * 1) < len = inside.each (n - 1) (omega arith) in
      omega (arith, rw (mul-one (n - 1)) at last, first_inside 1 low some inside)

  pub row_place_lem : (k : ℕ) → k < n → x + k ≡ stepped x 1 k
  row_place_lem k h = rw (mul-one k) (omega (arith, first_inside 1 low some inside))
