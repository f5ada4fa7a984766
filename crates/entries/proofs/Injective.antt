-- Sums of index × stride where each stride leaves room for all that are no greater: equal sums have equal indices.
-- Assumes nothing.
use mathlib.Core.Path.{◌≡◌, refl, ap, sym}
use mathlib.Core.Bool.{Bool, true, false, not, cond}
use mathlib.Core.List.{List, [], ◌∷◌, Memᴰ}
use mathlib.Core.Logic.{◌≢◌, ◌⊎◌, inl, inr}
use Prim.Native.Nat.{ℕ, ◌+◌, ◌*◌, ◌-◌, ◌≤◌, ◌<◌}
use native.Mathlib.Nat.{mul-le-mul_right, lt_irrefl, lt_trans, lt_of_not-le, lt_of_le_of_lt, le_refl}
use native.Mathlib.Decide.{ℕ_discrete, dec_le}
use native.Mathlib.Omega.{arith}
use lib.Dec.{T, leb, nleb→lt, le→leb}
use Rattle.words.specs.Sums.{sum_of, All}
use Rattle.words.proofs.Lists.{all_imp, all_both, all_at}
use Rattle.words.proofs.Sums.{sum_of_add}

pub sum_of_le : {X : Type 0} (f h : X → ℕ) (xs : List X) → All (λ l. f l ≤ h l) xs → sum_of f xs ≤ sum_of h xs
sum_of_le f h [] a = omega arith
sum_of_le f h (x ∷ xs) a = omega (arith, sum_of_le f h xs a.1)

-- and by as much less, at least, as at one member
sum_of_le_at : {X : Type 0} (f h : X → ℕ) (d : ℕ) {m : X} {xs : List X} → Memᴰ m xs → All (λ l. f l ≤ h l) xs → f m + d ≤ h m → sum_of f xs + d ≤ sum_of h xs
sum_of_le_at f h d (Memᴰ.head {xs = xs} p) a b = omega (arith, rw p at b, sum_of_le f h xs a.1)
sum_of_le_at f h d (Memᴰ.tail t) a b = omega (arith, sum_of_le_at f h d t a.1 b)

module _ {X : Type 0} (e s : X → ℕ) where
  -- how far the labels with strides up to t reach
  abbrev pub reach : List X → ℕ → ℕ
  reach xs t = sum_of (λ l. cond (leb (s l) t) ((e l - 1) * s l) 0) xs

  -- a member at which x and y differ, and no member of greater stride does
  record Top (x y : X → ℕ) (xs : List X) : Type 0 where
    top : X
    inside : Memᴰ top xs
    differs : x top ≢ y top
    above : All (λ l. s top < s l → x l ≡ y l) xs

  find : (x y : X → ℕ) (xs : List X) → All (λ l. x l ≡ y l) xs ⊎ Top x y xs
  find x y [] = inl tt
  find x y (l ∷ xs) = step (ℕ_discrete (x l) (y l)) (find x y xs)
    where
      choose : (t : Top x y xs) → x l ≢ y l → Dec (s l ≤ s t.top) → Top x y (l ∷ xs)
      choose t p (yes q) = record { top = t.top; inside = Memᴰ.tail t.inside; differs = t.differs; above = ((λ h. absurd (lt_irrefl _ (lt_of_le_of_lt q h))), t.above) }
      choose t p (no q) = record { top = l; inside = Memᴰ.head refl; differs = p; above = ((λ h. absurd (lt_irrefl _ h)), all_imp (λ k r h. r (lt_trans (lt_of_not-le q) h)) xs t.above) }

      step : Dec (x l ≡ y l) → All (λ l. x l ≡ y l) xs ⊎ Top x y xs → All (λ l. x l ≡ y l) (l ∷ xs) ⊎ Top x y (l ∷ xs)
      step (yes p) (inl a) = inl (p, a)
      step (yes p) (inr t) = inr (record { top = t.top; inside = Memᴰ.tail t.inside; differs = t.differs; above = ((λ h. p), t.above) })
      step (no p) (inl a) = inr (record { top = l; inside = Memᴰ.head refl; differs = p; above = ((λ h. absurd (lt_irrefl _ h)), all_imp (λ k q h. q) xs a) })
      step (no p) (inr t) = inr (choose t p (dec_le (s l) (s t.top)))

  -- the sums differ as the indices at the top do
  strict : (x y : X → ℕ) (xs : List X) → All (λ l. y l < e l) xs → (p : Top x y xs) → y p.top < x p.top
      → reach xs (s p.top) < e p.top * s p.top → sum_of (λ l. y l * s l) xs < sum_of (λ l. x l * s l) xs
  strict x y xs b p lt room =
      omega (
        arith,
        sum_of_add (λ l. x l * s l) (λ l. cond (leb (s l) (s p.top)) ((e l - 1) * s l) 0) xs,
        sum_of_le_at (λ l. y l * s l) (λ l. x l * s l + cond (leb (s l) (s p.top)) ((e l - 1) * s l) 0) (e p.top * s p.top) p.inside
            (all_imp (λ l h. each l (leb (s l) (s p.top)) (nleb→lt _ _) h.0 h.1) xs (all_both _ _ xs b p.above))
            (own (leb (s p.top) (s p.top)) (le→leb (s p.top) (s p.top) (le_refl _)) (all_at (λ l. y l < e l) p.inside b)),
      )
    where
      each : (l : X) (c : Bool) → (T (not c) → s p.top < s l) → y l < e l → (s p.top < s l → x l ≡ y l) → y l * s l ≤ x l * s l + cond c ((e l - 1) * s l) 0
      each l true f h k = omega (arith, mul-le-mul_right {m = y l} {n = e l - 1} (s l) (omega arith))
      each l false f h k = rw (k (f tt)) (omega arith)

      own : (c : Bool) → T c → y p.top < e p.top
          → y p.top * s p.top + e p.top * s p.top ≤ x p.top * s p.top + cond c ((e p.top - 1) * s p.top) 0
      own true t h =
          let k : e p.top ≡ (e p.top - 1) + 1 = omega arith in
          omega (arith, mul-le-mul_right (s p.top) lt, ap (λ (z : ℕ). z * s p.top) k)
      own false t h = absurd t

  -- where each stride that counts leaves room for all that are no greater, equal sums have equal indices
  pub equal_sums : (x y : X → ℕ) (xs : List X) → All (λ l. x l < e l) xs → All (λ l. y l < e l) xs
      → All (λ l. 1 < e l → reach xs (s l) < e l * s l) xs → sum_of (λ l. x l * s l) xs ≡ sum_of (λ l. y l * s l) xs → All (λ l. x l ≡ y l) xs
  equal_sums x y xs bx by room sums = go (find x y xs)
    where
      flip : Top x y xs → Top y x xs
      flip p = record { top = p.top; inside = p.inside; differs = λ q. p.differs (sym q); above = all_imp (λ l f h. sym (f h)) xs p.above }

      go : All (λ l. x l ≡ y l) xs ⊎ Top x y xs → All (λ l. x l ≡ y l) xs
      go (inl a) = a
      go (inr p) = absurd (no_top (dec_le (x p.top) (y p.top)))
        where
          hx : x p.top < e p.top
          hx = all_at (λ l. x l < e l) p.inside bx

          hy : y p.top < e p.top
          hy = all_at (λ l. y l < e l) p.inside by

          roomy : 1 < e p.top → reach xs (s p.top) < e p.top * s p.top
          roomy = all_at (λ l. 1 < e l → reach xs (s l) < e l * s l) p.inside room

          no_top : Dec (x p.top ≤ y p.top) → ⊥
          no_top (yes q) = let d = p.differs in omega (arith, strict y x xs bx (flip p) (omega arith) (roomy (omega (arith, hx, hy))))
          no_top (no q) = omega (arith, strict x y xs by p (omega arith) (roomy (omega (arith, hx, hy))))
