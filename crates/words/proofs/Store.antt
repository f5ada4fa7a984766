-- Lists of words that are read and written at the addresses of an index set, any index set.
-- Assumes nothing.
use Rattle.std.proofs.Common.{◌≡◌, ℕ, zero, suc, ◌+◌, ◌<◌, ◌≢◌, ◌⊎◌, List, length, get_or, set, sym, refl, ap, ◌∙◌, subst, inl, inr, not-suc-le-zero, add-one, arith, length-set, get_or-set_other, get_or-set_same, ext_get_or}
use native.Mathlib.Decide.{dec_lt}
use lib.Seq.{set_comm}
use Rattle.words.specs.Loops.{each, put, Within}
use Rattle.words.proofs.Loops.{each_keeps}

-- E is D with the word w of each index q that P has become g q w, and all else as it was
module _ {Ix : Type 0} (at : Ix → ℕ) (In : Ix → Type 0) where
  pub record Changes (P : Ix → Type 0) (g : Ix → ℕ → ℕ) (D E : List ℕ) : Type 0 where
    pub len : length E ≡ length D
    pub hit : (q : Ix) → In q → P q → get_or E (at q) 0 ≡ g q (get_or D (at q) 0)
    pub miss : (x : ℕ) → ((q : Ix) → In q → P q → at q ≢ x) → get_or E x 0 ≡ get_or D x 0

  pub nothing_changes : (g : Ix → ℕ → ℕ) (D : List ℕ) → Changes (λ q. ⊥) g D D
  nothing_changes g D = record { len = refl; hit = λ q inq p. absurd p; miss = λ x off. refl }

  -- the same indices, said another way
  pub changes_iff : {P Q : Ix → Type 0} {g : Ix → ℕ → ℕ} {D E : List ℕ} → ((q : Ix) → In q → P q → Q q) → ((q : Ix) → In q → Q q → P q)
      → Changes P g D E → Changes Q g D E
  changes_iff to from c =
      record {
        len = c.len;
        hit = λ q k p. c.hit q k (from q k p);
        miss = λ x off. c.miss x (λ q k p. off q k (to q k p));
      }

  -- the same words, said another way
  pub changes_same : {P : Ix → Type 0} {f g : Ix → ℕ → ℕ} {D E : List ℕ} → ((q : Ix) → In q → P q → (w : ℕ) → f q w ≡ g q w)
      → Changes P f D E → Changes P g D E
  changes_same {D = D} same c = record { len = c.len; hit = λ q k p. c.hit q k p ∙ same q k p (get_or D (at q) 0); miss = c.miss }

  -- one after the other, at the same indices
  pub changes_again : {P : Ix → Type 0} {f g : Ix → ℕ → ℕ} {D E F : List ℕ} → Changes P f D E → Changes P g E F → Changes P (λ q w. g q (f q w)) D F
  changes_again {g = g} c d =
      record {
        len = d.len ∙ c.len;
        hit = λ q k p. d.hit q k p ∙ ap (g q) (c.hit q k p);
        miss = λ x off. d.miss x off ∙ c.miss x off;
      }

  -- the list is determined
  pub changes_unique : {P : Ix → Type 0} {g : Ix → ℕ → ℕ} {D E F : List ℕ} → ((x : ℕ) → Dec ((q : Ix) × In q × P q × (at q ≡ x)))
      → Changes P g D E → Changes P g D F → E ≡ F
  changes_unique {P} {g} {D} {E} {F} find c d = ext_get_or 0 E F (c.len ∙ sym d.len) (λ x b. pick x (find x))
    where
      pick : (x : ℕ) → Dec ((q : Ix) × In q × P q × (at q ≡ x)) → get_or E x 0 ≡ get_or F x 0
      pick x (yes w) = subst (λ (y : ℕ). get_or E y 0 ≡ get_or F y 0) w.3 (c.hit w.0 w.1 w.2 ∙ sym (d.hit w.0 w.1 w.2))
      pick x (no f) = let off : (q : Ix) → In q → P q → at q ≢ x = λ q k p e. f (q, k, p, e) in c.miss x off ∙ sym (d.miss x off)

-- stores keep the length
pub length_put : (g : ℕ → ℕ) (x : ℕ) (D : List ℕ) → length (put g x D) ≡ length D
unfolding put
length_put g x D = length-set D x (g (get_or D x 0))

pub length_each : (n : ℕ) (body : ℕ → List ℕ → List ℕ) → ((k : ℕ) (D : List ℕ) → length (body k D) ≡ length D) → (D : List ℕ) → length (each n body D) ≡ length D
length_each n body keep D = each_keeps (λ E. length E ≡ length D) body n (λ k h E e. keep k E ∙ e) D refl

-- two stores at different places may change places
pub put_pass : (f g : ℕ → ℕ) (x y : ℕ) → x ≢ y → (s : List ℕ) → put f x (put g y s) ≡ put g y (put f x s)
unfolding put
put_pass f g x y ne s =
    ap (λ (w : ℕ). set (set s y (g (get_or s y 0))) x (f w)) (get_or-set_other s y x (g (get_or s y 0)) 0 ne)
    ∙ set_comm s y x (g (get_or s y 0)) (f (get_or s x 0)) (λ e. ne (sym e))
    ∙ ap (λ (w : ℕ). set (set s x (f (get_or s x 0))) y (g w)) (sym (get_or-set_other s x y (f (get_or s x 0)) 0 (λ e. ne (sym e))))

-- a loop of stores, one turn more
pub put_next : (g : ℕ → ℕ → ℕ) (place : ℕ → ℕ) (D : List ℕ) (k : ℕ) {E : List ℕ} {p v : ℕ} → E ≡ each k (λ j. put (g j) (place j)) D → p ≡ place k → v ≡ g k (get_or E p 0)
    → set E p v ≡ each (k + 1) (λ j. put (g j) (place j)) D
unfolding each put
put_next g place D k e a t = rw (add-one, ← e, ← a, t)

module _ {Ix : Type 0} (at : Ix → ℕ) (In : Ix → Type 0) (inj : (q r : Ix) → In q → In r → at q ≡ at r → q ≡ r) where
  -- an index that P does not have keeps its word
  pub keeps : {P : Ix → Type 0} {g : Ix → ℕ → ℕ} {D E : List ℕ} → Changes at In P g D E
      → (q : Ix) → In q → ¬ (P q) → get_or E (at q) 0 ≡ get_or D (at q) 0
  keeps {P} c q inq np = c.miss (at q) (λ r k p e. np (subst P (inj r q k inq e) p))

  -- a store changes its own index
  pub put_changes : (g : Ix → ℕ → ℕ) (q : Ix) → In q → (D : List ℕ) → at q < length D
      → Changes at In (λ r. r ≡ q) g D (put (g q) (at q) D)
  unfolding put
  put_changes g q inq D b =
      record {
        len = length-set D (at q) (g q (get_or D (at q) 0));
        hit = λ r k e. rw e (get_or-set_same D (at q) (g q (get_or D (at q) 0)) 0 b);
        miss = λ x off. get_or-set_other D (at q) x (g q (get_or D (at q) 0)) 0 (λ e. off q inq refl (sym e));
      }

  -- one after the other, at other indices
  pub then_changes : {P Q : Ix → Type 0} {g : Ix → ℕ → ℕ} {D E F : List ℕ} → ((q : Ix) → P q → Q q → ⊥)
      → Changes at In P g D E → Changes at In Q g E F → Changes at In (λ q. P q ⊎ Q q) g D F
  then_changes {P} {Q} {g} {D} {E} {F} other c d =
      record {
        len = d.len ∙ c.len;
        hit = hits;
        miss = λ x off. d.miss x (λ q k p. off q k (inr p)) ∙ c.miss x (λ q k p. off q k (inl p));
      }
    where
      hits : (q : Ix) → In q → P q ⊎ Q q → get_or F (at q) 0 ≡ g q (get_or D (at q) 0)
      hits q k (inl p) = keeps d q k (other q p) ∙ c.hit q k p
      hits q k (inr p) = d.hit q k p ∙ ap (g q) (keeps c q k (λ z. other q z p))

  -- a loop whose turns change different indices
  pub each_changes : (g : Ix → ℕ → ℕ) (n : ℕ) (body : ℕ → List ℕ → List ℕ) (P : ℕ → Ix → Type 0) (D : List ℕ)
      → ((k : ℕ) → k < n → (E : List ℕ) → length E ≡ length D → Changes at In (P k) g E (body k E))
      → ((k l : ℕ) (q : Ix) → P k q → P l q → k ≡ l)
      → Changes at In (λ q. (k : ℕ) × (k < n) × P k q) g D (each n body D)
  unfolding each
  each_changes g zero body P D turn apart =
      changes_iff at In (λ q i (p : ⊥). absurd p) (λ q i p. not-suc-le-zero p.1) (nothing_changes at In g D)
  each_changes g (suc n) body P D turn apart =
      let c : Changes at In (λ q. (k : ℕ) × (k < n) × P k q) g D (each n body D)
      = each_changes g n body P D (λ k b. turn k (omega arith)) apart in
      changes_iff at In to from (then_changes other c (turn n (omega arith) (each n body D) c.len))
    where
      other : (q : Ix) → ((k : ℕ) × (k < n) × P k q) → P n q → ⊥
      other q w p = let e : w.0 ≡ n = apart w.0 n q w.2 p in omega (arith, w.1)

      to : (q : Ix) → In q → ((k : ℕ) × (k < n) × P k q) ⊎ P n q → (k : ℕ) × (k < suc n) × P k q
      to q i (inl w) = (w.0, omega (arith, w.1), w.2)
      to q i (inr p) = (n, omega arith, p)

      from : (q : Ix) → In q → ((k : ℕ) × (k < suc n) × P k q) → ((k : ℕ) × (k < n) × P k q) ⊎ P n q
      from q i w = split (dec_lt w.0 n)
        where
          split : Dec (w.0 < n) → ((k : ℕ) × (k < n) × P k q) ⊎ P n q
          split (yes b) = inl (w.0, b, w.2)
          split (no f) = let e : w.0 ≡ n = omega (arith, w.1) in inr (subst (λ (k : ℕ). P k q) e w.2)

-- a loop that makes g k of the word at the place of each count k
module _ (place : ℕ → ℕ) (g : ℕ → ℕ → ℕ) where
  abbrev puts : ℕ → List ℕ → List ℕ
  puts n = each n (λ k. put (g k) (place k))

  pub length_puts : (n : ℕ) (D : List ℕ) → length (puts n D) ≡ length D
  length_puts n = length_each n (λ k. put (g k) (place k)) (λ k. length_put (g k) (place k))

  -- a word that is no place keeps its value
  pub puts_other : (n x : ℕ) (D : List ℕ) → ((k : ℕ) → k < n → place k ≢ x) → get_or (puts n D) x 0 ≡ get_or D x 0
  unfolding each put
  puts_other zero x D off = refl
  puts_other (suc n) x D off =
      get_or-set_other (puts n D) (place n) x (g n (get_or (puts n D) (place n) 0)) 0 (λ e. off n (omega arith) (sym e))
      ∙ puts_other n x D (λ k h. off k (omega arith))

  -- each place has its own change, where no two places are the same
  pub puts_at : (n : ℕ) (D : List ℕ) → ((i k : ℕ) → i < n → k < n → place i ≡ place k → i ≡ k) → Within n place (length D)
      → (m : ℕ) → m < n → get_or (puts n D) (place m) 0 ≡ g m (get_or D (place m) 0)
  puts_at n D inj fits m h =
      (each_changes place (λ k. k < n) inj g n (λ k. put (g k) (place k)) (λ k q. q ≡ k) D
      (λ k b E l. put_changes place (λ k. k < n) inj g k b E (omega (arith, fits.each k b)))
      (λ k l q p e. sym p ∙ e)
      ).hit m h (m, h, refl)
