-- The state of an output index: by two comparisons, of t with the numbers of the first and of the last tile of its word, and by its panels.
-- The panels done are the first q: state old says that q is 0, and final that q is the number of panels. A panel done stays done.
-- Assumes nothing.
use mathlib.Core.Path.{◌≡◌, refl, sym, ap, ◌∙◌}
use mathlib.Core.Logic.{◌↔◌}
use mathlib.Core.Bool.{Bool, true, false, cond}
use Prim.Native.Nat.{ℕ, ◌-◌, ◌/◌, ◌<◌, ◌≤◌, zero-le}
use native.Mathlib.Nat.{lt_of_lt_of_le, le_refl}
use native.Mathlib.Omega.{arith}
use lib.Dec.{eqb}
use borrow.Author.Tests.{ltb-true, ltb-false, eqb-true, lt-ltb, le-ltb, ne_eqb}
use Rattle.tiles.specs.Cut.{Cut, KB, tile_number}
use Rattle.tiles.specs.Progress.{old, part, final, done, state_at}
use Rattle.tiles.proofs.Numbering.{KB_pos}
use Rattle.tiles.proofs.Progress.{tile, Reached, state_by, reached, reached_state, reached_before, reached_after, state_none, state_all}

module _ (G : Cut) where
  -- old and final are each the state of one q only
  by_old : (q : ℕ) → state_by G q ≡ old → q ≡ 0
  unfolding state_by
  by_old q = go (eqb q 0) (eqb q (KB G)) (eqb-true q 0)
    where
      go : (a b : Bool) → (a ≡ true → q ≡ 0) → cond a old (cond b final part) ≡ old → q ≡ 0
      go true b f e = f refl
      go false true f e = cc
      go false false f e = cc

  by_final : (q : ℕ) → state_by G q ≡ final → q ≡ KB G
  unfolding state_by
  by_final q = go (eqb q 0) (eqb q (KB G)) (eqb-true q (KB G))
    where
      go : (a b : Bool) → (b ≡ true → q ≡ KB G) → cond a old (cond b final part) ≡ final → q ≡ KB G
      go true b f e = cc
      go false true f e = f refl
      go false false f e = cc

module _ (G : Cut) (h i j : ℕ) where
  open G use {rows, cols}

  -- ---- by two comparisons

  pub state_old : {t : ℕ} → t ≤ tile_number G h (j / cols) 0 (i / rows) → state_at G t h i j ≡ old
  state_old b = reached_state G h i j (reached_before G h i j b) ∙ state_none G

  pub state_final : {t : ℕ} → tile_number G h (j / cols) (KB G - 1) (i / rows) < t → state_at G t h i j ≡ final
  state_final b = reached_state G h i j (reached_after G h i j b) ∙ state_all G

  pub state_part : {t : ℕ} → tile_number G h (j / cols) 0 (i / rows) < t → t ≤ tile_number G h (j / cols) (KB G - 1) (i / rows) → state_at G t h i j ≡ part
  unfolding state_by done
  state_part {t} a b =
      let w = reached G h i j t in
      let q : ℕ = w.0 in
      let k : 0 < KB G = KB_pos G in
      let first : 0 < q = ltb-true 0 q (sym (w.1.which 0 k) ∙ lt-ltb (tile G h i j 0) t a) in
      let last : q ≤ KB G - 1 = ltb-false (KB G - 1) q (sym (w.1.which (KB G - 1) (omega arith)) ∙ le-ltb (tile G h i j (KB G - 1)) t b) in
      reached_state G h i j w.1
      ∙ ap (λ (c : Bool). cond c old (cond (eqb q (KB G)) final part)) (ne_eqb q 0 (λ e. omega arith))
      ∙ ap (λ (c : Bool). cond c final part) (ne_eqb q (KB G) (λ e. omega arith))

  -- ---- by the panels

  -- old exactly when no panel is done
  pub old_none : (t : ℕ) → (state_at G t h i j ≡ old) ↔ ((p : ℕ) → p < KB G → done G t h i j p ≡ false)
  old_none t = (to, from)
    where
      to : state_at G t h i j ≡ old → (p : ℕ) → p < KB G → done G t h i j p ≡ false
      to e p b =
          let w = reached G h i j t in
          let z : w.0 ≡ 0 = by_old G w.0 (sym (reached_state G h i j w.1) ∙ e) in
          w.1.which p b ∙ le-ltb p w.0 (omega arith)

      from : ((p : ℕ) → p < KB G → done G t h i j p ≡ false) → state_at G t h i j ≡ old
      from f = reached_state G h i j {t = t} {q = 0} (record { up_to = zero-le; which = λ p b. f p b ∙ sym (le-ltb p 0 zero-le) }) ∙ state_none G

  pub final_reached : {t : ℕ} → state_at G t h i j ≡ final → Reached G h i j t (KB G)
  final_reached {t} e =
      let w = reached G h i j t in
      let z : w.0 ≡ KB G = by_final G w.0 (sym (reached_state G h i j w.1) ∙ e) in
      rw z at w.1

  -- final exactly when every panel is done
  pub final_all : (t : ℕ) → (state_at G t h i j ≡ final) ↔ ((p : ℕ) → p < KB G → done G t h i j p ≡ true)
  final_all t = (to, from)
    where
      to : state_at G t h i j ≡ final → (p : ℕ) → p < KB G → done G t h i j p ≡ true
      to e p b = (final_reached e).which p b ∙ lt-ltb p (KB G) b

      from : ((p : ℕ) → p < KB G → done G t h i j p ≡ true) → state_at G t h i j ≡ final
      from f = reached_state G h i j {t = t} {q = KB G} (record { up_to = le_refl (KB G); which = λ p b. f p b ∙ sym (lt-ltb p (KB G) b) }) ∙ state_all G

  -- what is final stays so
  pub final_stays : {t u : ℕ} → t ≤ u → state_at G t h i j ≡ final → state_at G u h i j ≡ final
  unfolding done
  final_stays {t} {u} b e = (final_all u).1 (λ p k. lt-ltb (tile G h i j p) u (lt_of_lt_of_le (ltb-true (tile G h i j p) t ((final_all t).0 e p k)) b))
