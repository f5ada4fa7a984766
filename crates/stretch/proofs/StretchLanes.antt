-- Lanes side by side do not meet, so that words stored in all lanes of a band after others in all of them are stored lane by lane; whole lanes make a front longer.
-- Assumes nothing.
use Rattle.std.proofs.Common.{◌≡◌, ℕ, zero, suc, ◌+◌, ◌*◌, ◌<◌, ◌≤◌, List, length, sym, refl, ap, ◌∙◌, add-zero, add-suc, mul-le-mul_left, mul-zero, mul-suc, mul-add, arith}
use Rattle.words.specs.Loops.{each}
use Rattle.words.specs.Fronts.{stored, front}
use Rattle.words.proofs.Loops.{each_ext, each_none, each_zip}
use Rattle.words.proofs.Fronts.{stored_front, stored_none, stored_more, stored_ext, stored_apart}
use Rattle.words.proofs.Lanes.{lane_inside}
use Rattle.stretch.specs.StretchLanes.{lanes_stored, LanesRoom}

module _ (width : ℕ) where
  -- a lane ends where a later one begins, or before
  below : (i j : ℕ) → i < j → width * i + width ≤ width * j
  below i j h = omega (arith, mul-le-mul_left width h, mul-suc width i)

  -- m lanes from lane d on are inside a block of `depth` lanes
  pub band_room : (d m depth : ℕ) {n to out : ℕ} → d + m ≤ depth → width * depth ≤ out → to + n ≤ width * d + width → LanesRoom m n width to out
  band_room d m depth fits room within =
      record { each = λ q b. omega (arith, mul-add width d q, lane_inside width {d = d + q} {filled = d + m} (omega arith) fits room) }

  -- the first of them
  pub first_lane : {m n to out : ℕ} → LanesRoom m n width to out → 0 < m → to + n ≤ out
  first_lane room any = omega (arith, mul-zero width, room.each 0 any)

  -- no words in any lane
  pub lanes_none : (m : ℕ) (v : ℕ → ℕ → ℕ) (to : ℕ) (xs : List ℕ) → lanes_stored m 0 width v to xs ≡ xs
  lanes_none m v to xs = each_none (λ q. stored 0 (v q) (to + width * q)) m (λ q b s. stored_none (v q) (to + width * q) s) xs

  -- n words more in each lane, behind the r that are there
  pub lanes_more : (m r n : ℕ) (v w : ℕ → ℕ → ℕ) (to : ℕ) (xs : List ℕ) → r + n ≤ width → ((q k : ℕ) → q < m → k < n → w q k ≡ v q (r + k))
      → lanes_stored m n width w (to + r) (lanes_stored m r width v to xs) ≡ lanes_stored m (r + n) width v to xs
  lanes_more m r n v w to xs h e =
      each_zip (λ q. stored n (w q) (to + r + width * q)) (λ q. stored r (v q) (to + width * q)) m
      (λ i j a b s. stored_apart n r (w i) (v j) (to + r + width * i) (to + width * j) s (omega (arith, below i j a))) xs
      ∙ each_ext {f = λ q s. stored n (w q) (to + r + width * q) (stored r (v q) (to + width * q) s)} {g = λ q. stored (r + n) (v q) (to + width * q)} m
      (λ q b s. ap (λ (x : ℕ). stored n (w q) x (stored r (v q) (to + width * q) s)) (omega arith) ∙ stored_more r n (v q) (w q) (to + width * q) s (λ k. e q k b)) xs

  -- the same words, said another way
  pub lanes_ext : (m n : ℕ) (v w : ℕ → ℕ → ℕ) (to : ℕ) (xs : List ℕ) → ((q k : ℕ) → q < m → k < n → v q k ≡ w q k)
      → lanes_stored m n width v to xs ≡ lanes_stored m n width w to xs
  lanes_ext m n v w to xs e =
      each_ext {f = λ q. stored n (v q) (to + width * q)} {g = λ q. stored n (w q) (to + width * q)} m (λ q b s. stored_ext n (v q) (w q) (to + width * q) s (λ k. e q k b)) xs

  -- whole lanes stored behind the front
  pub lanes_front : (g : ℕ → ℕ) (xs : List ℕ) (d m : ℕ) → width * (d + m) ≤ length xs
      → lanes_stored m width width (λ q k. g (width * (d + q) + k)) (width * d) (front (width * d) g xs) ≡ front (width * (d + m)) g xs
  unfolding each
  lanes_front g xs d zero fits = ap (λ (k : ℕ). front (width * k) g xs) (sym (add-zero d))
  lanes_front g xs d (suc m) fits =
      let one_more : width * (d + suc m) ≡ width * (d + m) + width = rw (add-suc d m) (mul-suc width (d + m)) in
      let place : width * d + width * m ≡ width * (d + m) = sym (mul-add width d m) in
      ap (stored width (λ k. g (width * (d + m) + k)) (width * d + width * m)) (lanes_front g xs d m (omega arith))
      ∙ ap (λ (x : ℕ). stored width (λ k. g (width * (d + m) + k)) x (front (width * (d + m)) g xs)) place
      ∙ stored_front width (width * (d + m)) (λ k. g (width * (d + m) + k)) g xs (omega arith) (λ i h. refl)
      ∙ ap (λ (n : ℕ). front n g xs) (sym one_more)
