-- A number stands for a whole number where the two differ by a multiple of 2 ^ 32. Sums and products keep that; so a word whose whole number is
-- small reads, as signed, as just that number.
-- Assumes nothing.
use mathlib.Core.Path.{◌≡◌, refl, ap}
use mathlib.Core.Bool.{Bool, true, false, cond}
use Prim.Native.Nat.{ℕ, zero, suc, ◌+◌, ◌*◌, ◌-◌, ◌^◌, ◌≤◌, ◌<◌}
use native.Mathlib.Omega.{arith}
use lib.IntN.{ℤ, pos, negsuc, nat_abs, ◌+ℤ◌, ◌*ℤ◌, neg_ℤ, *ℤ_comm}
use lib.Dec.{ltb}
use borrow.Author.Tests.{lt-ltb, le-ltb}
use Rattle.words.specs.Sums.{sum_to, sum_ℤ}
use Rattle.words.specs.Words.{word, up, down, signed}
use Rattle.words.proofs.Whole.{add_parts, up_mul, down_mul, size_add}

pub record Stands (x : ℕ) (z : ℤ) : Type 0 where
  pub below : ℕ
  pub above : ℕ
  pub same : x + down z + below * 2 ^ 32 ≡ up z + above * 2 ^ 32

-- ---- products of whole numbers

-- the parts of a product differ as the products of the parts do
mul_parts : (x y : ℤ) → up (x *ℤ y) + (up x * down y + down x * up y) ≡ down (x *ℤ y) + (up x * up y + down x * down y)
mul_parts (pos a) y = omega (arith, up_mul a y, down_mul a y)
mul_parts (negsuc a) (pos b) = rw (*ℤ_comm (negsuc a) (pos b), up_mul b (negsuc a), down_mul b (negsuc a)) (omega arith)
mul_parts (negsuc a) (negsuc b) = omega arith

size_neg : (n : ℕ) → nat_abs (neg_ℤ (pos n)) ≡ n
size_neg zero = refl
size_neg (suc n) = refl

pub size_mul : (x y : ℤ) → nat_abs (x *ℤ y) ≡ nat_abs x * nat_abs y
size_mul (pos a) (pos b) = refl
size_mul (pos a) (negsuc b) = size_neg (a * suc b)
size_mul (negsuc a) (pos b) = size_neg (suc a * b)
size_mul (negsuc a) (negsuc b) = refl

-- ---- what sums and products stand for

pub stands_add : {x y : ℕ} {z v : ℤ} → Stands x z → Stands y v → Stands (x + y) (z +ℤ v)
stands_add {z = z} {v = v} p q =
    record {
      below = p.below + q.below;
      above = p.above + q.above;
      same = omega (arith, add_parts z v, p.same, q.same);
    }

pub stands_mul : {x y : ℕ} {z v : ℤ} → Stands x z → Stands y v → Stands (x * y) (z *ℤ v)
stands_mul {x} {y} {z} {v} p q =
    record {
      below = down z * q.above + up z * q.below + p.below * y;
      above = up z * q.above + down z * q.below + p.above * y;
      same =
          omega (arith, mul_parts z v, ap (λ (n : ℕ). n * y) p.same, ap (λ (n : ℕ). up z * n) q.same, ap (λ (n : ℕ). down z * n) q.same);
    }

pub stands_signed : (x : ℕ) → x < 2 ^ 32 → Stands x (signed 32 x)
stands_signed x h = go (ltb x (2 ^ 31))
  where
    go : (b : Bool) → Stands x (cond b (pos x) (negsuc ((2 ^ 32 - 1) - x)))
    go true = record { below = 0; above = 0; same = omega arith }
    go false = record { below = 0; above = 1; same = omega arith }

pub stands_sum : (n : ℕ) {f : ℕ → ℕ} {g : ℕ → ℤ} → ((i : ℕ) → i < n → Stands (f i) (g i)) → Stands (sum_to n f) (sum_ℤ n g)
unfolding sum_to sum_ℤ
stands_sum zero h = record { below = 0; above = 0; same = refl }
stands_sum (suc n) h = stands_add (stands_sum n (λ i k. h i (omega arith))) (h n (omega arith))

-- ---- sizes

pub size_sum : (n b : ℕ) (g : ℕ → ℤ) → ((i : ℕ) → i < n → nat_abs (g i) ≤ b) → nat_abs (sum_ℤ n g) ≤ n * b
unfolding sum_ℤ
size_sum zero b g h = omega arith
size_sum (suc n) b g h = omega (arith, size_sum n b g (λ i k. h i (omega arith)), h n (omega arith), size_add (sum_ℤ n g) (g n))

-- a number that stands for a small whole number reads, as a word, as that
pub stands_read : {x : ℕ} (z : ℤ) → Stands x z → nat_abs z < 2 ^ 31 → signed 32 (word 32 x) ≡ z
stands_read {x} (pos n) p h =
    let e : word 32 x ≡ n = omega (arith, p.same) in
    rw (e, lt-ltb n (2 ^ 31) h)
stands_read {x} (negsuc n) p h =
    let e : word 32 x ≡ 2 ^ 32 - suc n = omega (arith, p.same) in
    let k : (2 ^ 32 - 1) - (2 ^ 32 - suc n) ≡ n = omega arith in
    rw (e, le-ltb (2 ^ 32 - suc n) (2 ^ 31) (omega arith), k)
