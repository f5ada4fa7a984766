-- Whole numbers by how far they go up and down, their products and sums, and their 64-bit words.
-- Assumes nothing.
use Rattle.std.proofs.Common.{◌≡◌, ℕ, zero, suc, ◌+◌, ◌-◌, ◌*◌, ◌%◌, ◌^◌, ◌<◌, ◌≤◌, Bool, true, false, cond, not, T, ltb, ℤ, pos, negsuc, ◌+ℤ◌, ◌*ℤ◌, neg_ℤ, nat_abs, sym, refl, mul-zero, arith, ltb→lt, nltb→le, le-ltb, lt-ltb}
use lib.IntN.{sub_ℕ}
use Rattle.words.specs.Words.{up, down, word_of, signed}

-- ---- sums and products

sub_parts : (a b : ℕ) → up (sub_ℕ a b) + b ≡ down (sub_ℕ a b) + a
sub_parts a b = go (ltb a b) (ltb→lt a b) (nltb→le a b)
  where
    go : (c : Bool) → (T c → a < b) → (T (not c) → b ≤ a) → up (cond c (negsuc (b - suc a)) (pos (a - b))) + b ≡ down (cond c (negsuc (b - suc a)) (pos (a - b))) + a
    go true f g = let h : a < b = f tt in omega arith
    go false f g = let h : b ≤ a = g tt in omega arith

-- the parts of a sum differ as the sums of the parts do
pub add_parts : (x y : ℤ) → up (x +ℤ y) + (down x + down y) ≡ down (x +ℤ y) + (up x + up y)
add_parts (pos a) (pos b) = omega arith
add_parts (pos a) (negsuc b) = omega (arith, sub_parts a (suc b))
add_parts (negsuc a) (pos b) = omega (arith, sub_parts b (suc a))
add_parts (negsuc a) (negsuc b) = omega arith

up_neg : (n : ℕ) → up (neg_ℤ (pos n)) ≡ 0
up_neg zero = refl
up_neg (suc n) = refl

down_neg : (n : ℕ) → down (neg_ℤ (pos n)) ≡ n
down_neg zero = refl
down_neg (suc n) = refl

pub up_mul : (e : ℕ) (s : ℤ) → up (pos e *ℤ s) ≡ e * up s
up_mul e (pos n) = refl
up_mul e (negsuc n) = rw (mul-zero) (up_neg (e * suc n))

pub down_mul : (e : ℕ) (s : ℤ) → down (pos e *ℤ s) ≡ e * down s
down_mul e (pos n) = omega arith
down_mul e (negsuc n) = down_neg (e * suc n)

-- one of the two parts is 0, and their sum is the size
pub size_parts : (s : ℤ) → nat_abs s ≡ up s + down s
size_parts (pos n) = omega arith
size_parts (negsuc n) = omega arith

pub size_add : (x y : ℤ) → nat_abs (x +ℤ y) ≤ nat_abs x + nat_abs y
size_add x y = go (x +ℤ y) (add_parts x y)
  where
    go : (z : ℤ) → up z + (down x + down y) ≡ down z + (up x + up y) → nat_abs z ≤ nat_abs x + nat_abs y
    go (pos n) e = omega (arith, size_parts x, size_parts y)
    go (negsuc n) e = omega (arith, size_parts x, size_parts y)

-- ---- 64-bit words

-- 1 for a number below 0
abbrev pub sign : ℤ → ℕ
sign (pos n) = 0
sign (negsuc n) = 1

pub word_is : (s : ℤ) → down s ≤ 2 ^ 64 → word_of 64 s + down s ≡ up s + sign s * 2 ^ 64
word_is (pos n) h = omega arith
word_is (negsuc n) h = omega arith

pub word_of_lt : (s : ℤ) → nat_abs s < 2 ^ 63 → word_of 64 s < 2 ^ 64
word_of_lt (pos n) h = omega arith
word_of_lt (negsuc n) h = omega arith

-- a small number is what its word reads as
pub signed_word : (s : ℤ) → nat_abs s < 2 ^ 63 → signed 64 (word_of 64 s) ≡ s
signed_word (pos n) h = rw (lt-ltb n (2 ^ 63) h)
signed_word (negsuc n) h =
    let e : (2 ^ 64 - 1) - (2 ^ 64 - suc n) ≡ n = omega arith in
    rw (le-ltb (2 ^ 64 - suc n) (2 ^ 63) (omega arith), e)

-- a word is that of the number that it reads as
pub word_signed : (x : ℕ) → x < 2 ^ 64 → word_of 64 (signed 64 x) ≡ x
word_signed x h = go (ltb x (2 ^ 63))
  where
    go : (c : Bool) → word_of 64 (cond c (pos x) (negsuc ((2 ^ 64 - 1) - x))) ≡ x
    go true = refl
    go false = omega arith

-- the word of a sum is the sum of the words, modulo 2 ^ 64
pub word_add : (x y : ℤ) → nat_abs x < 2 ^ 62 → nat_abs y < 2 ^ 62 → (word_of 64 x + word_of 64 y) % 2 ^ 64 ≡ word_of 64 (x +ℤ y)
word_add x y hx hy = go (x +ℤ y) (add_parts x y) (size_add x y)
  where
    go : (z : ℤ) → up z + (down x + down y) ≡ down z + (up x + up y) → nat_abs z ≤ nat_abs x + nat_abs y → (word_of 64 x + word_of 64 y) % 2 ^ 64 ≡ word_of 64 z
    go z e b =
        let a : word_of 64 x + down x ≡ up x + sign x * 2 ^ 64 = word_is x (omega (arith, size_parts x)) in
        let c : word_of 64 y + down y ≡ up y + sign y * 2 ^ 64 = word_is y (omega (arith, size_parts y)) in
        let d : word_of 64 z + down z ≡ up z + sign z * 2 ^ 64 = word_is z (omega (arith, size_parts z, size_parts x, size_parts y)) in
        omega (arith, a, c, d, word_of_lt z (omega (arith, size_parts x, size_parts y)))

-- how far a small number's word, read as signed, goes up and down adds up to the number's size
pub word_size : (s : ℤ) → nat_abs s < 2 ^ 63 → {w u d : ℕ} → w ≡ word_of 64 s → u ≡ up (signed 64 w) → d ≡ down (signed 64 w) → u + d ≡ nat_abs s
word_size s h p q r = rw (q, r, p, signed_word s h) (sym (size_parts s))
