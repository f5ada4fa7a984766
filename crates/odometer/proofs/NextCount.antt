-- From a count to the next: its digits and the label that goes up.
-- Assumes nothing.
use Rattle.std.proofs.Common.{◌≡◌, ℕ, zero, suc, ◌+◌, ◌-◌, ◌*◌, ◌/◌, ◌%◌, ◌<◌, ◌≤◌, List, [], ◌∷◌, map, length, get_or, sym, ap, ◌∙◌, mod-lt, arith, le-ltb, lt-ltb}
use native.Mathlib.Nat.{div-add-mod, mul-mod_right, mul-div_right, lt_of_mul-lt-mul_left}
use native.Mathlib.Decide.{dec_lt}
use Rattle.groups.specs.Groups.{Label, size}
use Rattle.offsets.proofs.Digits.{pos_left, rest}
use Rattle.offsets.proofs.Runs.{next_count, next_lowest}
use Rattle.odometer.specs.Carried.{digits, rising}
use Rattle.odometer.specs.Odometer.{Turned}

-- ---- the two digits of a next count
module _ (e n : ℕ) where
  -- where the lowest digit goes up
  pub up_rest : n % e + 1 < e → (n + 1) / e ≡ n / e
  up_rest h = ap (λ (x : ℕ). x / e) (next_count e n h) ∙ rest e (n / e) h

  -- where it goes back to 0
  module _ (p : 0 < e) (h : e ≤ n % e + 1) where
    pub last_digit : n % e + 1 ≡ e
    last_digit = omega (arith, mod-lt n p)

    back_count : n + 1 ≡ e * (n / e + 1)
    back_count = omega (arith, div-add-mod n e, last_digit)

    pub back_digit : (n + 1) % e ≡ 0
    back_digit = ap (λ (x : ℕ). x % e) back_count ∙ mul-mod_right e (n / e + 1)

    pub back_rest : (n + 1) / e ≡ n / e + 1
    back_rest = ap (λ (x : ℕ). x / e) back_count ∙ mul-div_right (n / e + 1) p

    pub back_below : (s : ℕ) → n + 1 < e * s → n / e + 1 < s
    back_below s b = lt_of_mul-lt-mul_left e (omega (arith, b, back_count))

-- ---- the label that goes up
module _ (l : Label) (g : List Label) (n : ℕ) where
  pub rising_here : n % l.extent + 1 < l.extent → rising (l ∷ g) n ≡ 0
  rising_here h = rw (lt-ltb (n % l.extent + 1) l.extent h)

  pub rising_later : l.extent ≤ n % l.extent + 1 → rising (l ∷ g) n ≡ suc (rising g (n / l.extent))
  rising_later h = rw (le-ltb (n % l.extent + 1) l.extent h)

-- ---- the digits

-- a function shifted by one place
abbrev later : (ℕ → ℕ) → ℕ → ℕ
later f i = f (suc i)

-- the digits that `f` gives are those of count n
abbrev Gives : List Label → ℕ → (ℕ → ℕ) → Type 0
Gives g n f = (i : ℕ) → i < length g → f i ≡ get_or (digits g n) i 0

-- the last values of the labels
abbrev Lasts : List Label → (ℕ → ℕ) → Type 0
Lasts g last = (i : ℕ) → i < length g → last i ≡ get_or (map (λ l. l.extent) g) i 0 - 1

turned_later : {count r : ℕ} {last old new : ℕ → ℕ} → Turned (suc count) last old new (suc r) → Turned count (later last) (later old) (later new) r
turned_later t =
    record {
      within = omega (arith, t.within);
      full = λ i h. t.full (suc i) (omega arith);
      cleared = λ i h. t.cleared (suc i) (omega arith);
      free = λ h. t.free (omega arith);
      up = λ h. t.up (omega arith);
      others = λ i h. t.others (suc i) (omega arith);
    }

-- what was turned is the next count, and the place is that of the label that goes up
pub record Next (g : List Label) (n r : ℕ) (new : ℕ → ℕ) : Type 0 where
  pub place : r ≡ rising g n
  pub below : r < length g
  pub digits : Gives g (n + 1) new

module _ (l : Label) (g : List Label) (n : ℕ) (last old new : ℕ → ℕ) (h : n + 1 < size (l ∷ g)) (e : Lasts (l ∷ g) last) (d : Gives (l ∷ g) n old) where
  long : 0 < l.extent
  long = pos_left l.extent (size g) (n + 1) h

  first_digit : old 0 ≡ n % l.extent
  first_digit = d 0 (omega arith)

  first_last : last 0 ≡ l.extent - 1
  first_last = e 0 (omega arith)

  -- the first label goes up
  up_here : n % l.extent + 1 < l.extent → Turned (suc (length g)) last old new 0 → Next (l ∷ g) n 0 new
  up_here u t = record { place = sym (rising_here l g n u); below = omega arith; digits = go }
    where
      go : Gives (l ∷ g) (n + 1) new
      go zero i = t.up (omega arith) ∙ omega (arith, first_digit, next_lowest l.extent n u)
      go (suc k) i = t.others (suc k) (omega arith) ∙ d (suc k) i ∙ ap (λ (x : ℕ). get_or (digits g x) k 0) (sym (up_rest l.extent n u))

  -- it goes back to 0, and a later one goes up
  up_later : l.extent ≤ n % l.extent + 1 → (r : ℕ) → Turned (suc (length g)) last old new (suc r) → Next g (n / l.extent) r (later new) → Next (l ∷ g) n (suc r) new
  up_later w r t q = record { place = ap suc q.place ∙ sym (rising_later l g n w); below = omega (arith, q.below); digits = go }
    where
      go : Gives (l ∷ g) (n + 1) new
      go zero i = t.cleared 0 (omega arith) ∙ sym (back_digit l.extent n long w)
      go (suc k) i = q.digits k (omega arith) ∙ ap (λ (x : ℕ). get_or (digits g x) k 0) (sym (back_rest l.extent n long w))

  -- by which of the two the digits were turned
  turned_cases : (r : ℕ) → Turned (suc (length g)) last old new r
      → ((k : ℕ) → n / l.extent + 1 < size g → Turned (length g) (later last) (later old) (later new) k → Next g (n / l.extent) k (later new)) → Next (l ∷ g) n r new
  turned_cases r t next = pick r t (dec_lt (n % l.extent + 1) l.extent)
    where
      pick : (r : ℕ) → Turned (suc (length g)) last old new r → Dec (n % l.extent + 1 < l.extent) → Next (l ∷ g) n r new
      pick zero t (yes u) = up_here u t
      pick (suc r) t (yes u) = absurd (omega (arith, t.full 0 (omega arith), first_digit, first_last))
      pick zero t (no u) = absurd (omega (arith, t.free (omega arith), first_digit, first_last, long))
      pick (suc r) t (no u) =
          let w : l.extent ≤ n % l.extent + 1 = omega arith in
          up_later w r t (next r (back_below l.extent n long w (size g) h) (turned_later t))

pub turned_next : (g : List Label) (n r : ℕ) (last old new : ℕ → ℕ) → n + 1 < size g → Lasts g last → Gives g n old → Turned (length g) last old new r → Next g n r new
turned_next [] n r last old new h e d t = absurd (omega arith)
turned_next (l ∷ g) n r last old new h e d t =
    turned_cases l g n last old new h e d r t
    (λ k b. turned_next g (n / l.extent) k (later last) (later old) (later new) b (λ i c. e (suc i) (omega arith)) (λ i c. d (suc i) (omega arith)))
