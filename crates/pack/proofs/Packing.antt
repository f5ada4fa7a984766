-- Packed blocks, word by word and lane by lane: place n of lane d is word width × d + n, whose two digits to the base `width` give them back.
-- A band's words and the zeros up to its lanes' ends make the packed front as many lanes longer, and zeros stored in the lanes not filled complete it.
-- Assumes nothing.
use mathlib.Core.Path.{◌≡◌, refl, ap, sym, ◌∙◌}
use mathlib.Core.Bool.{Bool, true, false, cond, ◌&&◌, and-false}
use mathlib.Core.List.{List}
use mathlib.Core.Logic.{◌≢◌, ◌⊎◌, inl, inr}
use Prim.Native.Nat.{ℕ, zero, suc, ◌+◌, ◌-◌, ◌*◌, ◌/◌, ◌%◌, ◌<◌, ◌≤◌}
use native.Mathlib.Nat.{mul_comm, mul-zero, mul-suc, mul-le-mul_left, le-div_iff_mul-le}
use native.Mathlib.Decide.{ℕ_discrete}
use native.Mathlib.Omega.{arith}
use borrow.Author.Tests.{ltb-true, lt-ltb, le-ltb}
use lib.Arith.{digits_div, digits_mod}
use lib.Seq.{set-get_or}
use lib.Dec.{ltb}
use lib.ListN.{length, get_or}
use Rattle.words.specs.Fronts.{stored, front}
use Rattle.words.specs.Loops.{each, put}
use Rattle.words.proofs.Store.{length_each, length_puts, puts_other, puts_at}
use Rattle.words.proofs.Fronts.{front_none, stored_front, stored_ext}
use Rattle.stretch.specs.StretchLanes.{lanes_stored}
use Rattle.stretch.proofs.StretchLanes.{lanes_more, lanes_ext, lanes_front}
use Rattle.pack.specs.Packed.{packed_word}

-- ---- the digits of a place

lane_mod : (width d : ℕ) {n : ℕ} → n < width → (width * d + n) % width ≡ n
lane_mod width d h = rw (mul_comm width d) (digits_mod d h)

lane_div : (width d : ℕ) {n : ℕ} → n < width → (width * d + n) / width ≡ d
lane_div width d h = rw (mul_comm width d) (digits_div d h)

-- ---- the words

module _ (width count filled : ℕ) (f : ℕ → ℕ → ℕ) where
  -- place n of lane d
  pub packed_at : (n d : ℕ) → n < count → count ≤ width → d < filled → packed_word width count filled f (width * d + n) ≡ f n d
  unfolding packed_word
  packed_at n d h narrow k =
      let b : n < width = omega arith in
      rw (lane_mod width d b, lane_div width d b, lt-ltb n count h, lt-ltb d filled k)

  -- past the places of a lane that are in use
  pub packed_past : (n d : ℕ) → count ≤ n → n < width → packed_word width count filled f (width * d + n) ≡ 0
  unfolding packed_word
  packed_past n d h b = rw (lane_mod width d b, le-ltb n count h)

  -- past the lanes that are filled
  pub packed_unfilled : (x : ℕ) → 0 < width → width * filled ≤ x → packed_word width count filled f x ≡ 0
  unfolding packed_word
  packed_unfilled x wide h =
      rw (le-ltb (x / width) filled ((le-div_iff_mul-le wide).1 (rw (mul_comm filled width) h)), and-false (ltb (x % width) count))

-- the same words, said another way
pub packed_ext : (width count filled : ℕ) {f g : ℕ → ℕ → ℕ} → ((n d : ℕ) → n < count → d < filled → f n d ≡ g n d)
    → (x : ℕ) → packed_word width count filled f x ≡ packed_word width count filled g x
unfolding packed_word
packed_ext width count filled {f} {g} e x = go (ltb (x % width) count) (ltb-true _ _) (ltb (x / width) filled) (ltb-true _ _)
  where
    go : (a : Bool) → (a ≡ true → x % width < count) → (b : Bool) → (b ≡ true → x / width < filled)
        → cond (a && b) (f (x % width) (x / width)) 0 ≡ cond (a && b) (g (x % width) (x / width)) 0
    go true h true k = e (x % width) (x / width) (h refl) (k refl)
    go true h false k = refl
    go false h b k = refl

-- ---- the packed lanes

module _ (width count filled : ℕ) (f : ℕ → ℕ → ℕ) (xs : List ℕ) where
  -- the first `lanes` lanes are packed
  abbrev pub packed : ℕ → List ℕ
  packed lanes = front (width * lanes) (packed_word width count filled f) xs

  -- m lanes more: their words stored, and zeros up to their ends
  pub packed_band : (d m : ℕ) {out lanes after : List ℕ} → count ≤ width → d + m ≤ filled → width * (d + m) ≤ length xs → out ≡ packed d
      → lanes ≡ lanes_stored m count width (λ q r. f r (d + q)) (width * d) out → after ≡ lanes_stored m (width - count) width (λ q r. 0) (width * d + count) lanes
      → after ≡ packed (d + m)
  packed_band d m {out} narrow k fits e p q =
      let g = packed_word width count filled f in
      let v : ℕ → ℕ → ℕ = λ q r. g (width * (d + q) + r) in
      let words : lanes_stored m count width (λ q r. f r (d + q)) (width * d) out ≡ lanes_stored m count width v (width * d) out
      = lanes_ext width m count (λ q r. f r (d + q)) v (width * d) out (λ q r b h. sym (packed_at width count filled f r (d + q) h narrow (omega arith))) in
      q
      ∙ ap (lanes_stored m (width - count) width (λ q r. 0) (width * d + count)) (p ∙ words)
      ∙ lanes_more width m count (width - count) v (λ q r. 0) (width * d) out (omega arith)
      (λ q r b h. sym (packed_past width count filled f (count + r) (d + q) (omega arith) (omega arith)))
      ∙ ap (λ (n : ℕ). lanes_stored m n width v (width * d) out) (omega arith)
      ∙ ap (lanes_stored m width width v (width * d)) e
      ∙ lanes_front width g xs d m fits

  -- the lanes not filled, cleared
  pub packed_rest : (depth : ℕ) {out after : List ℕ} → filled ≤ depth → width * depth ≤ length xs → out ≡ packed filled
      → after ≡ stored (width * depth - width * filled) (λ r. 0) (width * filled) out → after ≡ packed depth
  packed_rest depth h fits e q =
      let g = packed_word width count filled f in
      let more : width * filled ≤ width * depth = mul-le-mul_left width h in
      q ∙ ap (stored (width * depth - width * filled) (λ r. 0) (width * filled)) e
      ∙ stored_front (width * depth - width * filled) (width * filled) (λ r. 0) g xs (omega arith)
      (λ i k. sym (packed_unfilled width count filled f (width * filled + i) (wide width k) (omega arith)))
      ∙ ap (λ (n : ℕ). front n g xs) (omega arith)
    where
      wide : (w : ℕ) {i : ℕ} → i < w * depth - w * filled → 0 < w
      wide zero k = absurd (omega arith)
      wide (suc w) k = omega arith

-- ---- words stored in lanes, place by place

module _ (width n : ℕ) (v : ℕ → ℕ → ℕ) (to : ℕ) (xs : List ℕ) where
  pub length_lanes : (m : ℕ) → length (lanes_stored m n width v to xs) ≡ length xs
  unfolding stored
  length_lanes m = length_each m (λ q. stored n (v q) (to + width * q)) (λ q ys. length_puts (λ r. to + width * q + r) (λ r was. v q r) n ys) xs

  -- a place in front of the lanes, or behind the last of them
  pub lanes_other : (m i : ℕ) → n ≤ width → (i < to) ⊎ (to + width * m ≤ i) → get_or (lanes_stored m n width v to xs) i 0 ≡ get_or xs i 0
  unfolding each stored
  lanes_other zero i narrow h = refl
  lanes_other (suc m) i narrow h =
      puts_other (λ r. to + width * m + r) (λ r was. v m r) n i (lanes_stored m n width v to xs) (λ r b e. apart h r b e)
      ∙ lanes_other m i narrow (before h)
    where
      apart : (i < to) ⊎ (to + width * suc m ≤ i) → (r : ℕ) → r < n → to + width * m + r ≢ i
      apart (inl b) r c e = omega (arith, b, e)
      apart (inr b) r c e = omega (arith, b, c, e, narrow, mul-suc width m)

      before : (i < to) ⊎ (to + width * suc m ≤ i) → (i < to) ⊎ (to + width * m ≤ i)
      before (inl b) = inl b
      before (inr b) = inr (omega (arith, b, mul-suc width m))

  -- place k of lane q
  pub lanes_at : (m q k : ℕ) → n ≤ width → to + width * m ≤ length xs → q < m → k < n → get_or (lanes_stored m n width v to xs) (to + (width * q + k)) 0 ≡ v q k
  unfolding each stored
  lanes_at zero q k narrow room a b = absurd (omega (arith, a))
  lanes_at (suc m) q k narrow room a b = go (ℕ_discrete q m) (λ c. lanes_at m q k narrow (omega (arith, mul-suc width m)) c b)
    where
      go : Dec (q ≡ m) → (q < m → get_or (lanes_stored m n width v to xs) (to + (width * q + k)) 0 ≡ v q k) → get_or (stored n (v m) (to + width * m) (lanes_stored m n width v to xs)) (to + (width * q + k)) 0 ≡ v q k
      go (yes e) again =
          let place : to + (width * q + k) ≡ to + width * m + k = rw e (omega arith) in
          let inside : to + width * m + n ≤ length (lanes_stored m n width v to xs) = omega (arith, mul-suc width m, length_lanes m) in
          rw (place, e)
          (puts_at (λ r. to + width * m + r) (λ r was. v m r) n (lanes_stored m n width v to xs) (λ i j c d f. omega (arith, f)) (record { each = λ r c. omega arith }) k b)
      go (no f) again =
          let c : q < m = omega (arith, f) in
          let below : width * q + width ≤ width * m = omega (arith, mul-le-mul_left width c, mul-suc width q) in
          puts_other (λ r. to + width * m + r) (λ r was. v m r) n (to + (width * q + k)) (lanes_stored m n width v to xs) (λ r d e. omega (arith, e, below, b, narrow))
          ∙ again c

-- ---- zeros past the edge of what is packed

-- the words of a list stored where they stand
stored_own : (n to : ℕ) (xs : List ℕ) → to + n ≤ length xs → stored n (λ r. get_or xs (to + r) 0) to xs ≡ xs
unfolding stored each put
stored_own zero to xs h = refl
stored_own (suc n) to xs h = rw (stored_own n to xs (omega arith)) (set-get_or xs (to + n) 0)

lanes_own : (width count m : ℕ) (v : ℕ → ℕ → ℕ) (to : ℕ) (xs : List ℕ) → count ≤ width → width * m ≤ length xs → to ≡ 0
    → ((q r : ℕ) → v q r ≡ get_or xs (width * q + r) 0) → lanes_stored m count width v to xs ≡ xs
unfolding each
lanes_own width count zero v to xs narrow h z e = refl
lanes_own width count (suc m) v to xs narrow h z e =
    let fits : width * m + width ≤ length xs = omega (arith, mul-suc width m) in
    let place : to + width * m ≡ width * m = omega arith in
    rw (lanes_own width count m v to xs narrow (omega arith) z e, place)
    (stored_ext count (v m) (λ r. get_or xs (width * m + r) 0) (width * m) xs (λ r b. e m r) ∙ stored_own count (width * m) xs (omega arith))

-- zeros behind the first `count` places of the first lanes, and in the lanes behind those
pub packed_own : (width count filled depth : ℕ) (xs : List ℕ) {lanes after : List ℕ} → count ≤ width → filled ≤ depth → width * depth ≤ length xs
    → lanes ≡ lanes_stored filled (width - count) width (λ q r. 0) count xs → after ≡ stored (width * depth - width * filled) (λ r. 0) (width * filled) lanes
    → after ≡ front (width * depth) (packed_word width count filled (λ n d. get_or xs (width * d + n) 0)) xs
packed_own width count filled depth xs {lanes} narrow h fits e q =
    let f : ℕ → ℕ → ℕ = λ n d. get_or xs (width * d + n) 0 in
    let inside : width * filled ≤ length xs = omega (arith, mul-le-mul_left width h) in
    let none : xs ≡ packed width count filled f xs 0 = sym (ap (λ (n : ℕ). front n (packed_word width count filled f) xs) (mul-zero width) ∙ front_none (packed_word width count filled f) xs) in
    let all : 0 + filled ≡ filled = omega arith in
    let whole : lanes ≡ packed width count filled f xs (0 + filled) =
    packed_band width count filled f xs 0 filled narrow (omega arith) (rw all inside) none
    (sym (lanes_own width count filled (λ q r. f r (0 + q)) (width * 0) xs narrow inside (mul-zero width) (λ q r. ap (f r) (omega arith))))
    (e ∙ ap (λ (x : ℕ). lanes_stored filled (width - count) width (λ q r. 0) x xs) (omega (arith, mul-zero width))) in
    packed_rest width count filled f xs depth h fits (rw all at whole) q
