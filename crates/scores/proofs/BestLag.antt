-- The lag with the greatest score: no lag scores more, and every smaller one scores less.
-- Assumes nothing.
use mathlib.Core.Path.{◌≡◌, refl}
use mathlib.Core.Bool.{Bool, true, false, cond}
use Prim.Native.Nat.{ℕ, zero, suc, ◌+◌, ◌^◌, ◌≤◌, ◌<◌}
use native.Mathlib.Numerals.{add-one}
use native.Mathlib.Decide.{dec_le}
use native.Mathlib.Omega.{arith}
use lib.IntN.{ℤ, pos, negsuc}
use lib.Dec.{T, leb→le, le→leb, ltb→lt, lt→ltb}
use lib.Signed.{mag, lt_z, le_z, ◌≤ℤ◌, ◌<ℤ◌, lt_z_no, ≤ℤ_refl}
use mir.Syntax.{w64}
use mir.Val.{to_z, of_z}
use mir.ValLaws.{to_z-of_z}
use Rattle.scores.specs.Score.{best}

-- ---- the order of whole numbers

lt_le : (a b : ℤ) → T (lt_z a b) → T (le_z a b)
lt_le (pos a) (pos b) t = let h : a < b = ltb→lt a b t in le→leb a b (omega arith)
lt_le (pos a) (negsuc b) t = t
lt_le (negsuc a) (pos b) t = tt
lt_le (negsuc a) (negsuc b) t = let h : b < a = ltb→lt b a t in le→leb b a (omega arith)

less_most : {a b : ℤ} → a <ℤ b → a ≤ℤ b
less_most {a} {b} h = record { le = lt_le a b h.lt }

le_lt : (a b c : ℤ) → T (le_z a b) → T (lt_z b c) → T (lt_z a c)
le_lt (pos a) (pos b) (pos c) h k = let i : a ≤ b = leb→le a b h in let j : b < c = ltb→lt b c k in lt→ltb a c (omega arith)
le_lt (pos a) (pos b) (negsuc c) h k = k
le_lt (pos a) (negsuc b) c h k = absurd h
le_lt (negsuc a) (pos b) (pos c) h k = tt
le_lt (negsuc a) (pos b) (negsuc c) h k = absurd k
le_lt (negsuc a) (negsuc b) (pos c) h k = tt
le_lt (negsuc a) (negsuc b) (negsuc c) h k = let i : b ≤ a = leb→le b a h in let j : c < b = ltb→lt c b k in lt→ltb c a (omega arith)

most_less : {a b c : ℤ} → a ≤ℤ b → b <ℤ c → a <ℤ c
most_less {a} {b} {c} h k = record { lt = le_lt a b c h.le k.lt }

-- ---- the best of the lags 0 to n

-- l is one of the lags 0 to n, none of which scores more, and those before it score less
pub record Best (f : ℕ → ℤ) (n l : ℕ) : Type 0 where
  pub among : l ≤ n
  pub most : (k : ℕ) → k ≤ n → f k ≤ℤ f l
  pub first : (k : ℕ) → k < l → f k <ℤ f l

module _ (f : ℕ → ℤ) where
  -- of one lag more
  passed_by : (n l : ℕ) → Best f n l → f l <ℤ f (suc n) → Best f (suc n) (suc n)
  passed_by n l b h =
      record {
        among = omega arith;
        most =
            λ k i. elim (dec_le k n) [
              | yes j ↦ less_most (most_less (b.most k j) h)
              | no j ↦ (let e : k ≡ suc n = omega arith in rw e (≤ℤ_refl (f (suc n))))
            ];
        first = λ k i. most_less (b.most k (omega arith)) h;
      }

  kept : (n l : ℕ) → Best f n l → f (suc n) ≤ℤ f l → Best f (suc n) l
  kept n l b h =
      record {
        among = omega (arith, b.among);
        most = λ k i. elim (dec_le k n) [ yes j ↦ b.most k j | no j ↦ (let e : k ≡ suc n = omega arith in rw e h) ];
        first = b.first;
      }

  pub best_is : (n : ℕ) → Best f n (best f n)
  unfolding best
  best_is zero = record { among = omega arith; most = λ k i. let e : k ≡ 0 = omega arith in rw e (≤ℤ_refl (f 0)); first = λ k i. absurd (omega arith) }
  best_is (suc n) = go (lt_z (f (best f n)) (f (suc n))) refl (best_is n)
    where
      go : (b : Bool) → lt_z (f (best f n)) (f (suc n)) ≡ b → Best f n (best f n) → Best f (suc n) (cond b (suc n) (best f n))
      go true e r = passed_by n (best f n) r (record { lt = rw e tt })
      go false e r = kept n (best f n) r (lt_z_no (rw e tt))

-- scores that are the same have the same best lag
pub best_same : {f g : ℕ → ℤ} (n : ℕ) → ((l : ℕ) → l ≤ n → f l ≡ g l) → best f n ≡ best g n
unfolding best
best_same zero h = refl
best_same {f} {g} (suc n) h =
    let e : best f n ≡ best g n = best_same n (λ l i. h l (omega arith)) in
    let b : best g n ≤ n = (best_is g n).among in
    rw (e, h (best g n) (omega arith), h (suc n) (omega arith))

-- one lag more, as code compares two scores: a of the best lag so far, b of the next
pub best_next : (f : ℕ → ℤ) (l lag : ℕ) (a b : ℤ) → mag a < 2 ^ 63 → mag b < 2 ^ 63 → lag ≡ best f l → a ≡ f lag → b ≡ f (l + 1)
    → (more : Bool) → lt_z (to_z w64 (of_z w64 a)) (to_z w64 (of_z w64 b)) ≡ more → cond more (l + 1) lag ≡ best f (l + 1)
unfolding best
best_next f l lag a b ha hb e p q more t =
    let n : l + 1 ≡ suc l = add-one l in
    let u : lt_z (f (best f l)) (f (suc l)) ≡ more =
    rw (← e, ← p, ← n, ← q) (rw (to_z-of_z w64 a (record { sfits = ha }), to_z-of_z w64 b (record { sfits = hb })) at t) in
    rw (n, u, e)
