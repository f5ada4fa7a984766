-- Laws of lists of numbers without repeats, and of what a test keeps.
-- Assumes nothing.
use Rattle.std.proofs.Common.{◌≡◌, ℕ, ◌+◌, ◌*◌, ◌≤◌, Bool, true, false, cond, not, ◌||◌, T, eqb, List, [], ◌∷◌, ◌++◌, map, length, sym, refl, ap, ◌∙◌, subst, true≢false, add-zero, arith, eqb→eq}
use mathlib.Core.Path.{subst⁻¹}
use mathlib.Core.Bool.{or-true, or_assoc}
use mathlib.Core.List.{Memᴰ}
use lib.Dec.{eqb_refl}
use Rattle.words.specs.Sums.{sum_of, All}
use Rattle.words.specs.Lists.{member, keep, cons_if, distinct}

pub all_map : {X Y : Type 0} (P : Y → Type 0) (f : X → Y) (xs : List X) → All (λ x. P (f x)) xs → All P (map f xs)
all_map P f [] h = tt
all_map P f (x ∷ xs) h = (h.0, all_map P f xs h.1)

pub all_imp : {X : Type 0} {P Q : X → Type 0} → ((x : X) → P x → Q x) → (xs : List X) → All P xs → All Q xs
all_imp f [] h = tt
all_imp f (x ∷ xs) h = (f x h.0, all_imp f xs h.1)

pub all_of : {X : Type 0} {P : X → Type 0} → ((x : X) → P x) → (xs : List X) → All P xs
all_of f [] = tt
all_of f (x ∷ xs) = (f x, all_of f xs)

pub all_unmap : {X Y : Type 0} (P : Y → Type 0) (f : X → Y) (xs : List X) → All P (map f xs) → All (λ x. P (f x)) xs
all_unmap P f [] h = tt
all_unmap P f (x ∷ xs) h = (h.0, all_unmap P f xs h.1)

pub all_both : {X : Type 0} (P Q : X → Type 0) (xs : List X) → All P xs → All Q xs → All (λ x. P x × Q x) xs
all_both P Q [] h k = tt
all_both P Q (x ∷ xs) h k = ((h.0, k.0), all_both P Q xs h.1 k.1)

-- what holds of all holds of each
pub all_at : {X : Type 0} (P : X → Type 0) {m : X} {xs : List X} → Memᴰ m xs → All P xs → P m
all_at P (Memᴰ.head e) h = subst⁻¹ P e h.0
all_at P (Memᴰ.tail t) h = all_at P t h.1

-- what is kept passes the test, and what holds of all holds of what is kept
pub keep_passes : {X : Type 0} (p : X → Bool) (xs : List X) → All (λ x. p x ≡ true) (keep p xs)
keep_passes p [] = tt
keep_passes p (x ∷ xs) = go (p x) refl (keep_passes p xs)
  where
    go : (b : Bool) → p x ≡ b → All (λ x. p x ≡ true) (keep p xs) → All (λ x. p x ≡ true) (cons_if b x (keep p xs))
    go true e a = (e, a)
    go false e a = a

pub keep_all : {X : Type 0} (P : X → Type 0) (p : X → Bool) (xs : List X) → All P xs → All P (keep p xs)
keep_all P p [] h = tt
keep_all P p (x ∷ xs) h = go (p x) (keep_all P p xs h.1)
  where
    go : (b : Bool) → All P (keep p xs) → All P (cons_if b x (keep p xs))
    go true a = (h.0, a)
    go false a = a

-- no number stands twice
abbrev pub Unique : List ℕ → Type 0
Unique [] = Unit {0}
Unique (c ∷ cs) = All (λ d. eqb c d ≡ false) cs × Unique cs

pub keep_unique : (p : ℕ → Bool) (cs : List ℕ) → Unique cs → Unique (keep p cs)
keep_unique p [] u = tt
keep_unique p (c ∷ cs) u = go (p c) (keep_unique p cs u.1)
  where
    go : (b : Bool) → Unique (keep p cs) → Unique (cons_if b c (keep p cs))
    go true v = (keep_all _ p cs u.0, v)
    go false v = v

pub not-true : (b : Bool) → not b ≡ true → b ≡ false
not-true true e = sym e
not-true false e = refl

pub distinct_unique : (cs : List ℕ) → Unique (distinct cs)
distinct_unique [] = tt
distinct_unique (c ∷ cs) = (all_imp (λ d. not-true (eqb c d)) (keep _ (distinct cs)) (keep_passes _ (distinct cs)), keep_unique (λ d. not (eqb c d)) (distinct cs) (distinct_unique cs))

pub T_true : (b : Bool) → T b → b ≡ true
T_true true t = refl
T_true false t = absurd t

pub eqb-true : (c d : ℕ) → eqb c d ≡ true → c ≡ d
eqb-true c d e = eqb→eq c d (rw e tt)

pub eqb_ne : (c d : ℕ) → (c ≡ d → ⊥) → eqb c d ≡ false
eqb_ne c d h = go (eqb c d) refl
  where
    go : (b : Bool) → eqb c d ≡ b → b ≡ false
    go true e = absurd (h (eqb-true c d e))
    go false e = refl

pub eqb_self : (c : ℕ) → eqb c c ≡ true
eqb_self c = T_true _ (eqb_refl c)

pub eqb_flip : (c d : ℕ) → eqb c d ≡ false → eqb d c ≡ false
eqb_flip c d e = eqb_ne d c (λ p. true≢false (sym (eqb_self c) ∙ ap (eqb c) (sym p) ∙ e))

-- a member that passes is kept
pub member_keep : (p : ℕ → Bool) (d : ℕ) (xs : List ℕ) → p d ≡ true → member d xs ≡ true → member d (keep p xs) ≡ true
member_keep p d [] e h = h
member_keep p d (x ∷ xs) e h = go (p x) refl (eqb d x) refl h (member_keep p d xs e)
  where
    go : (b : Bool) → p x ≡ b → (c : Bool) → eqb d x ≡ c → (c || member d xs) ≡ true → (member d xs ≡ true → member d (keep p xs) ≡ true) → member d (cons_if b x (keep p xs)) ≡ true
    go true f true g h r = rw g
    go true f false g h r = rw g (r h)
    go false f true g h r = absurd (true≢false (sym e ∙ ap p (eqb-true d x g) ∙ f))
    go false f false g h r = r h

pub member_distinct : (d : ℕ) (xs : List ℕ) → member d xs ≡ true → member d (distinct xs) ≡ true
member_distinct d [] h = h
member_distinct d (c ∷ cs) h = go (eqb d c) refl h (member_distinct d cs)
  where
    other : eqb d c ≡ false → not (eqb c d) ≡ true
    other e = rw (eqb_flip d c e)

    go : (b : Bool) → eqb d c ≡ b → (b || member d cs) ≡ true → (member d cs ≡ true → member d (distinct cs) ≡ true) → (b || member d (keep (λ x. not (eqb c x)) (distinct cs))) ≡ true
    go true e h r = refl
    go false e h r = member_keep (λ x. not (eqb c x)) d (distinct cs) (other e) (r h)

-- the letters of all members stand in the list of letters
pub covers : {X : Type 0} (f : X → ℕ) (xs : List X) → All (λ x. member (f x) (map f xs) ≡ true) xs
covers f [] = tt
covers f (x ∷ xs) = (rw (eqb_self (f x)), all_imp (λ y e. later (eqb (f y) (f x)) e) xs (covers f xs))
  where
    later : (b : Bool) {c : Bool} → c ≡ true → (b || c) ≡ true
    later true e = refl
    later false e = e

pub members : (cs : List ℕ) → All (λ c. member c cs ≡ true) cs
members cs = subst (λ (l : List ℕ). All (λ c. member c l ≡ true) cs) (map_id cs) (covers (λ c. c) cs)
  where
    map_id : (cs : List ℕ) → map (λ c. c) cs ≡ cs
    map_id [] = refl
    map_id (c ∷ cs) = ap (λ l. c ∷ l) (map_id cs)

-- a sum that counts one number of the list only
pub sum_of_single : (d s : ℕ) (ρ : ℕ → ℕ) (cs : List ℕ) → Unique cs → member d cs ≡ true → sum_of (λ c. ρ c * cond (eqb d c) s 0) cs ≡ ρ d * s
sum_of_single d s ρ [] u m = absurd (true≢false (sym m))
sum_of_single d s ρ (c ∷ cs) u m = go (eqb d c) refl m (sum_of_single d s ρ cs u.1)
  where
    none : (cs : List ℕ) → All (λ x. eqb d x ≡ false) cs → sum_of (λ c. ρ c * cond (eqb d c) s 0) cs ≡ 0
    none [] a = refl
    none (x ∷ cs) a = rw a.0 (omega (arith, none cs a.1))

    go : (b : Bool) → eqb d c ≡ b → (b || member d cs) ≡ true → (member d cs ≡ true → sum_of (λ c. ρ c * cond (eqb d c) s 0) cs ≡ ρ d * s)
        → ρ c * cond b s 0 + sum_of (λ c. ρ c * cond (eqb d c) s 0) cs ≡ ρ d * s
    go true e m r = let p : d ≡ c = eqb-true d c e in rw (none cs (rw p u.0), ← p) (add-zero _)
    go false e m r = omega (arith, r m)

pub all_split : {X : Type 0} (P : X → Type 0) (xs ys : List X) → All P (xs ++ ys) → All P xs × All P ys
all_split P [] ys h = (tt, h)
all_split P (x ∷ xs) ys h = let r = all_split P xs ys h.1 in ((h.0, r.0), r.1)

pub all_member : (P : ℕ → Type 0) (c : ℕ) (cs : List ℕ) → All P cs → member c cs ≡ true → P c
all_member P c [] a m = absurd (true≢false (sym m))
all_member P c (d ∷ cs) a m = go (eqb c d) (eqb-true c d) m (all_member P c cs a.1)
  where
    go : (b : Bool) → (b ≡ true → c ≡ d) → (b || member c cs) ≡ true → (member c cs ≡ true → P c) → P c
    go true e m r = subst⁻¹ P (e refl) a.0
    go false e m r = r m

pub member_right : (c : ℕ) (xs ys : List ℕ) → member c ys ≡ true → member c (xs ++ ys) ≡ true
member_right c [] ys m = m
member_right c (x ∷ xs) ys m = rw (member_right c xs ys m) (or-true (eqb c x))

pub distinct_members : (xs : List ℕ) → All (λ c. member c xs ≡ true) (distinct xs)
distinct_members [] = tt
distinct_members (x ∷ xs) =
    (rw (eqb_self x), keep_all (λ c. member c (x ∷ xs) ≡ true) (λ d. not (eqb x d)) (distinct xs) (all_imp (λ c e. member_right c (x ∷ []) xs e) (distinct xs) (distinct_members xs)))

pub member_append : (c : ℕ) (xs ys : List ℕ) → member c (xs ++ ys) ≡ (member c xs || member c ys)
member_append c [] ys = refl
member_append c (x ∷ xs) ys = rw (member_append c xs ys) (sym (or_assoc (eqb c x) (member c xs) (member c ys)))

pub keep_append : {X : Type 0} (p : X → Bool) (xs ys : List X) → keep p (xs ++ ys) ≡ keep p xs ++ keep p ys
keep_append p [] ys = refl
keep_append p (x ∷ xs) ys = rw (keep_append p xs ys) (go (p x))
  where
    go : (b : Bool) → cons_if b x (keep p xs ++ keep p ys) ≡ cons_if b x (keep p xs) ++ keep p ys
    go true = refl
    go false = refl

-- two tests that agree at every member keep the same
pub keep_ext : {X : Type 0} (p q : X → Bool) (xs : List X) → All (λ x. p x ≡ q x) xs → keep p xs ≡ keep q xs
keep_ext p q [] a = refl
keep_ext p q (x ∷ xs) a = rw (a.0, keep_ext p q xs a.1)

-- taken once or as often as they stand, the members are the same
pub member_once : (c : ℕ) (xs : List ℕ) → member c (distinct xs) ≡ member c xs
member_once c xs = go (member c xs) refl (member c (distinct xs)) refl
  where
    go : (b : Bool) → member c xs ≡ b → (d : Bool) → member c (distinct xs) ≡ d → d ≡ b
    go true e true f = refl
    go true e false f = sym f ∙ member_distinct c xs e
    go false e true f = sym (all_member (λ d. member d xs ≡ true) c (distinct xs) (distinct_members xs) f) ∙ e
    go false e false f = refl

-- what holds of all numbers of a list holds of them taken once
pub all_once : (P : ℕ → Type 0) (xs : List ℕ) → All P xs → All P (distinct xs)
all_once P xs a = all_imp (λ c. all_member P c xs a) (distinct xs) (distinct_members xs)

-- what is kept, and what is different, is no longer than the list
keep_short : (p : ℕ → Bool) (xs : List ℕ) → length (keep p xs) ≤ length xs
keep_short p [] = omega arith
keep_short p (x ∷ xs) = go (p x) (keep_short p xs)
  where
    go : (b : Bool) → length (keep p xs) ≤ length xs → length (cons_if b x (keep p xs)) ≤ length (x ∷ xs)
    go true h = omega arith
    go false h = omega arith

pub distinct_short : (xs : List ℕ) → length (distinct xs) ≤ length xs
distinct_short [] = omega arith
distinct_short (x ∷ xs) = omega (arith, keep_short (λ d. not (eqb x d)) (distinct xs), distinct_short xs)
