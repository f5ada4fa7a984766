-- Counts cut into blocks: the block and the place in it of a count, and sums taken block by block.
-- A count i is i / b whole blocks and i % b counts more. Only the last block can be narrow, and there the counts end.
-- Assumes nothing.
use mathlib.Core.Path.{◌≡◌, refl, sym, ap, ◌∙◌}
use mathlib.Core.Bool.{cond}
use Prim.Native.Nat.{ℕ, zero, suc, ◌+◌, ◌-◌, ◌*◌, ◌/◌, ◌%◌, ◌<◌, ◌≤◌, min}
use native.Mathlib.Nat.{add-zero, add-suc, add-sub_of_le, le-add_right, le-div_iff_mul-le, div-lt_iff_lt-mul, div-mul-le_self, div-zero, zero-lt-suc, lt-div-mul-add, div-add-mod', mod-lt, mul-le-mul_left}
use native.Mathlib.Omega.{arith}
use lib.Arith.{digits_div}
use lib.Dec.{ltb}
use borrow.Author.Tests.{lt-ltb, le-ltb}
use Rattle.words.specs.Sums.{sum_to}
use Rattle.words.proofs.Sums.{sum_to_ext, sum_to_add}
use Rattle.tiles.specs.Cut.{blocks, width, Cut}

-- ---- blocks

pub block_lt : {n b i : ℕ} → 0 < b → i < n → i / b < blocks n b
unfolding blocks
block_lt {n} {b} {i} hb hi = (le-div_iff_mul-le hb).1 (omega (arith, div-mul-le_self i b))

pub blocks_cover : {b : ℕ} (n : ℕ) → 0 < b → n ≤ blocks n b * b
unfolding blocks
blocks_cover {b} n hb = omega (arith, lt-div-mul-add {a = n + b - 1} hb)

pub blocks_le : {n b : ℕ} → 0 < b → blocks n b ≤ n
unfolding blocks
blocks_le {n} {b} hb =
    let k : (n + b - 1) / b < n + 1 = (div-lt_iff_lt-mul hb).1 (omega (arith, mul-le-mul_left n hb)) in
    omega arith

-- where there is a block, blocks have counts
pub blocks_some : (n b : ℕ) {k : ℕ} → k < blocks n b → 0 < b
unfolding blocks
blocks_some n zero h = absurd (omega (arith, div-zero (n + 0 - 1)))
blocks_some n (suc b) h = zero-lt-suc b

-- ---- the place of a count in its block

pub width_le : (n b k : ℕ) → width n b k ≤ b
unfolding width
width_le n b k = omega arith

pub place_lt : {n b i : ℕ} → 0 < b → i < n → i % b < width n b (i / b)
unfolding width
place_lt {n} {b} {i} hb hi = omega (arith, mod-lt i hb, div-add-mod' i b)

pub place_eq : (b i : ℕ) → i / b * b + i % b ≡ i
place_eq b i = div-add-mod' i b

pub block_of : (n b k : ℕ) {a : ℕ} → a < width n b k → (k * b + a) / b ≡ k
unfolding width
block_of n b k h = digits_div k (omega arith)

pub place_in_lem : (n b k : ℕ) {a : ℕ} → a < width n b k → k * b + a < n
unfolding width
place_in_lem n b k h = omega arith

-- ---- sums

-- only the first q count
pub sum_to_below : {q n : ℕ} (f : ℕ → ℕ) → q ≤ n → sum_to n (λ k. cond (ltb k q) (f k) 0) ≡ sum_to q f
unfolding sum_to
sum_to_below {q} {n} f h = ap (λ (m : ℕ). sum_to m (λ k. cond (ltb k q) (f k) 0)) (sym (add-sub_of_le h)) ∙ beyond (n - q)
  where
    beyond : (d : ℕ) → sum_to (q + d) (λ k. cond (ltb k q) (f k) 0) ≡ sum_to q f
    beyond zero = rw add-zero (sum_to_ext q (λ k b. rw (lt-ltb k q b)))
    beyond (suc d) = rw (add-suc, le-ltb (q + d) q (le-add_right q d), beyond d) (add-zero (sum_to q f))

pub sum_to_ones : (n : ℕ) → sum_to n (λ k. 1) ≡ n
unfolding sum_to
sum_to_ones zero = refl
sum_to_ones (suc n) = omega (arith, sum_to_ones n)

-- the sums over the first B panels of b counts, where the counts end at n
pub sum_to_panels : (B b n : ℕ) (f : ℕ → ℕ) → sum_to B (λ p. sum_to (min ((p + 1) * b) n - p * b) (λ k. f (p * b + k))) ≡ sum_to (min (B * b) n) f
unfolding sum_to
sum_to_panels zero b n f = let e : 0 ≡ min (0 * b) n = omega arith in ap (λ (m : ℕ). sum_to m f) e
sum_to_panels (suc B) b n f =
    let x : ℕ = min (B * b) n in
    let y : ℕ = min ((B + 1) * b) n - B * b in
    let e : x + y ≡ min (suc B * b) n = omega arith in
    ap (λ (s : ℕ). s + sum_to y (λ k. f (B * b + k))) (sum_to_panels B b n f)
    ∙ ap (λ (s : ℕ). sum_to x f + s) (sum_to_ext y (λ k h. let z : B * b ≡ x = omega arith in ap (λ (m : ℕ). f (m + k)) z))
    ∙ sym (sum_to_add x y f)
    ∙ ap (λ (m : ℕ). sum_to m f) e

-- how many depth counts panel p has, said in both ways
pub panel_width_lem : (G : Cut) (p : ℕ) → min ((p + 1) * G.depth) G.K - p * G.depth ≡ width G.K G.depth p
unfolding width
panel_width_lem G p = omega arith
