-- Which panels have reached the word of an output index after t tiles: always the first q of them, for some q.
-- The numbers of the tiles that reach one word go up with the panel, so the panels done are those below the first that is not. A tile of the word
-- takes q to q + 1, any other leaves it; it is 0 at the start, and the number of panels at the end.
-- Assumes nothing.
use mathlib.Core.Path.{◌≡◌, refl, sym, ap, ◌∙◌}
use mathlib.Core.Logic.{◌≢◌}
use mathlib.Core.Bool.{Bool, true, false, cond}
use Prim.Native.Nat.{ℕ, zero, suc, ◌-◌, ◌/◌, ◌<◌, ◌≤◌, zero-le, suc-le-suc}
use native.Mathlib.Nat.{le_refl, le_of_lt, le_trans, lt_of_le_of_lt, lt_of_not-le, not-le_of_lt, le_of_suc-le-suc, not-suc-le-zero}
use native.Mathlib.Decide.{dec_lt}
use native.Mathlib.Omega.{arith}
use lib.Dec.{ltb, eqb}
use borrow.Author.Tests.{ltb-true, lt-ltb, le-ltb, eq-eqb, ne_eqb}
use Rattle.words.proofs.Sums.{sum_to_ext}
use Rattle.tiles.specs.Cut.{Cut, MB, NB, KB, total, tile_number}
use Rattle.tiles.specs.Progress.{State, old, part, final, done, done_count, state_at}
use Rattle.tiles.proofs.Cuts.{sum_to_below, sum_to_ones}
use Rattle.tiles.proofs.Numbering.{KB_pos, number_lt, number_mono, number_strict}

-- a test on counts that only goes from true to false is true at the first q
pub prefix : (n : ℕ) (f : ℕ → Bool) → ((p q : ℕ) → p ≤ q → f q ≡ true → f p ≡ true) → (q : ℕ) × (q ≤ n) × ((p : ℕ) → p < n → f p ≡ ltb p q)
prefix zero f down = (0, le_refl 0, λ p b. absurd (not-suc-le-zero b))
prefix (suc n) f down = go (f n) refl (prefix n f down)
  where
    go : (b : Bool) → f n ≡ b → ((q : ℕ) × (q ≤ n) × ((p : ℕ) → p < n → f p ≡ ltb p q)) → (q : ℕ) × (q ≤ suc n) × ((p : ℕ) → p < suc n → f p ≡ ltb p q)
    go true e w = (suc n, le_refl (suc n), λ p b. down p n (omega arith) e ∙ sym (lt-ltb p (suc n) b))
    go false e w = (w.0, omega (arith, w.1), λ p b. last p (dec_lt p n) b)
      where
        last : (p : ℕ) → Dec (p < n) → p < suc n → f p ≡ ltb p w.0
        last p (yes l) b = w.2 p l
        last p (no l) b = let x : p ≡ n = omega arith in ap f x ∙ e ∙ sym (le-ltb p w.0 (omega (arith, w.1)))

-- two tests that follow from one another
ltb_ext : {a b c d : ℕ} → (a < b → c < d) → (c < d → a < b) → ltb a b ≡ ltb c d
ltb_ext {a} {b} {c} {d} f g = go (ltb a b) (ltb c d) refl refl
  where
    go : (x y : Bool) → ltb a b ≡ x → ltb c d ≡ y → x ≡ y
    go true true e k = refl
    go true false e k = sym (lt-ltb c d (f (ltb-true a b e))) ∙ k
    go false true e k = sym e ∙ lt-ltb a b (g (ltb-true c d k))
    go false false e k = refl

-- the state where the first q panels are done
module _ (G : Cut) where
  unfoldable pub state_by : ℕ → State
  state_by q = cond (eqb q 0) old (cond (eqb q (KB G)) final part)

  pub state_none : state_by 0 ≡ old
  unfolding state_by
  state_none = refl

  pub state_all : state_by (KB G) ≡ final
  unfolding state_by
  state_all = rw (ne_eqb (KB G) 0 (λ e. omega (arith, KB_pos G)), eq-eqb (KB G) (KB G) refl)

module _ (G : Cut) (h i j : ℕ) where
  open G use {H, rows, cols}

  -- the number of the tile that brings panel p to the word
  abbrev pub tile : ℕ → ℕ
  tile p = tile_number G h (j / cols) p (i / rows)

  -- after t tiles the first q panels have reached the word, and no other
  pub record Reached (t q : ℕ) : Type 0 where
    pub up_to : q ≤ KB G
    pub which : (p : ℕ) → p < KB G → done G t h i j p ≡ ltb p q

  pub reached_count : {t q : ℕ} → Reached t q → done_count G t h i j ≡ q
  unfolding done_count
  reached_count {t} {q} r = sum_to_ext (KB G) (λ p b. ap (λ (c : Bool). cond c 1 0) (r.which p b)) ∙ sum_to_below (λ p. 1) r.up_to ∙ sum_to_ones q

  pub reached_state : {t q : ℕ} → Reached t q → state_at G t h i j ≡ state_by G q
  unfolding state_at state_by
  reached_state r = ap (λ (n : ℕ). cond (eqb n 0) old (cond (eqb n (KB G)) final part)) (reached_count r)

  -- ---- which q: at any t

  pub done_down : (t p q : ℕ) → p ≤ q → done G t h i j q ≡ true → done G t h i j p ≡ true
  unfolding done
  done_down t p q b e = lt-ltb (tile p) t (lt_of_le_of_lt (number_mono G h (j / cols) (i / rows) b) (ltb-true (tile q) t e))

  pub reached : (t : ℕ) → (q : ℕ) × Reached t q
  reached t = let w = prefix (KB G) (done G t h i j) (done_down t) in (w.0, record { up_to = w.1; which = w.2 })

  -- ---- before the first tile of the word, and so at the start; after the last, and so at the end

  pub reached_before : {t : ℕ} → t ≤ tile 0 → Reached t 0
  unfolding done
  reached_before {t} b =
      record {
        up_to = zero-le;
        which = λ p k. le-ltb (tile p) t (le_trans b (number_mono G h (j / cols) (i / rows) zero-le)) ∙ sym (le-ltb p 0 zero-le);
      }

  pub reached_none : Reached 0 0
  reached_none = reached_before zero-le

  pub reached_after : {t : ℕ} → tile (KB G - 1) < t → Reached t (KB G)
  unfolding done
  reached_after {t} b =
      record {
        up_to = le_refl (KB G);
        which = λ p k. lt-ltb (tile p) t (lt_of_le_of_lt (number_mono G h (j / cols) (i / rows) (omega arith)) b) ∙ sym (lt-ltb p (KB G) k);
      }

  pub reached_all : h < H → j / cols < NB G → i / rows < MB G → Reached (total G) (KB G)
  reached_all bh bj bi = reached_after (number_lt G (record { batch = bh; column = bj; panel = omega (arith, KB_pos G); row = bi }))

  -- ---- at a tile of the word, before it and after; at any other tile

  module _ (in_row : i / rows < MB G) where
    pub reached_here : (p : ℕ) → p < KB G → Reached (tile p) p
    unfolding done
    reached_here p b = record { up_to = le_of_lt b; which = λ q k. ltb_ext (back q) (number_strict G h (j / cols) in_row) }
      where
        back : (q : ℕ) → tile q < tile p → q < p
        back q l = lt_of_not-le (λ m. not-le_of_lt l (number_mono G h (j / cols) (i / rows) m))

    pub reached_next : (p : ℕ) → p < KB G → Reached (suc (tile p)) (suc p)
    unfolding done
    reached_next p b = record { up_to = b; which = λ q k. ltb_ext (back q) (λ l. suc-le-suc (number_mono G h (j / cols) (i / rows) (le_of_suc-le-suc l))) }
      where
        back : (q : ℕ) → tile q < suc (tile p) → q < suc p
        back q l = lt_of_not-le (λ m. not-le_of_lt l (number_strict G h (j / cols) in_row m))

  pub reached_skip : {t q : ℕ} → ((p : ℕ) → p < KB G → tile p ≢ t) → Reached t q → Reached (suc t) q
  unfolding done
  reached_skip {t} other r = record { up_to = r.up_to; which = λ p b. same (tile p) (other p b) ∙ r.which p b }
    where
      same : (n : ℕ) → n ≢ t → ltb n (suc t) ≡ ltb n t
      same n ne = ltb_ext {a = n} {b = suc t} {c = n} {d = t} (λ l. omega arith) (λ l. omega arith)
