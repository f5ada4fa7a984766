-- What a list of tiles makes of cells: of each output index's cell, the panels of that index in the order of the list.
-- Watch one cell: a visit changes it where the index is its own, and no other index has its place. A tile that holds the index visits it once.
-- Assumes nothing.
use mathlib.Core.Path.{◌≡◌, refl, sym, ap, ◌∙◌}
use mathlib.Core.Logic.{◌≢◌}
use mathlib.Core.Bool.{Bool, true, false, cond, ◌&&◌, true≢false}
use mathlib.Core.List.{List, [], ◌∷◌, map}
use Prim.Native.Nat.{ℕ, ◌+◌, ◌*◌, ◌/◌, ◌%◌, ◌<◌}
use native.Mathlib.Nat.{add_left_cancel}
use lib.Dec.{eqb, eqb→eq}
use borrow.Author.Tests.{eq-eqb}
use Rattle.words.specs.Sums.{All}
use Rattle.words.specs.Lists.{keep, cons_if}
use Rattle.words.specs.Loops.{each}
use Rattle.words.proofs.Loops.{each_none, each_one}
use Rattle.words.proofs.Sums.{and_split}
use Rattle.tiles.specs.Cut.{Cut, width, InSizes, MB, NB, total, batch_of, column_of, panel_of, row_of}
use Rattle.tiles.specs.TileWalk.{tile_at, visit_tile, walk_tiles, holds, panels_of, after, Cells, OwnPlaces, visit_cell, Becomes, EveryWalkAppliesPanels}
use Rattle.tiles.proofs.Cuts.{blocks_some, place_lt, place_eq, block_of}
use Rattle.tiles.proofs.Numbering.{tile_of}
use Rattle.tiles.proofs.Visits.{tiles_relate, tiles_keep, numbers_keep}

-- ---- tests on three counts

pub both₃ : (a b c a' b' c' : ℕ) → a ≡ a' → b ≡ b' → c ≡ c' → (eqb a a' && (eqb b b' && eqb c c')) ≡ true
both₃ a b c a' b' c' x y z = rw (eq-eqb a a' x, eq-eqb b b' y, eq-eqb c c' z)

pub each₃ : (a b c a' b' c' : ℕ) → (eqb a a' && (eqb b b' && eqb c c')) ≡ true → (a ≡ a') × (b ≡ b') × (c ≡ c')
each₃ a b c a' b' c' e =
    let x = and_split (eqb a a') (eqb b b' && eqb c c') (rw e tt) in
    let y = and_split (eqb b b') (eqb c c') x.1 in
    (eqb→eq a a' x.0, eqb→eq b b' y.0, eqb→eq c c' y.1)

-- ---- one cell

module _ {X : Type 0} (G : Cut) (panel : ℕ → ℕ → ℕ → ℕ → X → X) (h i j : ℕ) where
  open G use {M, N, rows, cols}

  -- the visits as the cell of h i j sees them
  abbrev mine : ℕ → ℕ → ℕ → ℕ → X → X
  mine p h' i' j' x = cond (eqb h' h && (eqb j' j && eqb i' i)) (panel p h i j x) x

  mine_hit : (p : ℕ) {h' i' j' : ℕ} → h' ≡ h → j' ≡ j → i' ≡ i → (x : X) → mine p h' i' j' x ≡ panel p h i j x
  mine_hit p {h'} {i'} {j'} a b c x = ap (λ (t : Bool). cond t (panel p h i j x) x) (both₃ h' j' i' h j i a b c)

  mine_miss : (p : ℕ) {h' i' j' : ℕ} → ¬ ((h' ≡ h) × (j' ≡ j) × (i' ≡ i)) → (x : X) → mine p h' i' j' x ≡ x
  mine_miss p {h'} {i'} {j'} ne x = go (eqb h' h && (eqb j' j && eqb i' i)) refl
    where
      go : (t : Bool) → (eqb h' h && (eqb j' j && eqb i' i)) ≡ t → cond t (panel p h i j x) x ≡ x
      go true e = absurd (ne (each₃ h' j' i' h j i e))
      go false e = refl

  module _ (bi : i < M) (bj : j < N) where
    -- a tile that holds the index visits it once
    tile_hit : 0 < rows → 0 < cols → (p : ℕ) (x : X) → tile_at G mine h (j / cols) p (i / rows) x ≡ panel p h i j x
    unfolding tile_at
    tile_hit rows_pos cols_pos p x =
        each_one column (width N cols (j / cols)) (j % cols) (place_lt cols_pos bj)
        (λ b l ne. each_none (λ a. cell a b) (width M rows (i / rows)) (λ a k.
        mine_miss p (λ w. ne (add_left_cancel (j / cols * cols) (w.1 ∙ sym (place_eq cols j))))))
        x
        ∙ each_one (λ a. cell a (j % cols)) (width M rows (i / rows)) (i % rows) (place_lt rows_pos bi)
        (λ a l ne. mine_miss p (λ w. ne (add_left_cancel (i / rows * rows) (w.2 ∙ sym (place_eq rows i)))))
        x
        ∙ mine_hit p refl (place_eq cols j) (place_eq rows i) x
      where
        cell : ℕ → ℕ → X → X
        cell a b = mine p h (i / rows * rows + a) (j / cols * cols + b)

        column : ℕ → X → X
        column b = each (width M rows (i / rows)) (λ a. cell a b)

    -- and any other does not
    tile_miss : (p h' c r : ℕ) → ¬ ((h' ≡ h) × (c ≡ j / cols) × (r ≡ i / rows)) → (x : X) → tile_at G mine h' c p r x ≡ x
    unfolding tile_at
    tile_miss p h' c r ne =
        each_none (λ b. each (width M rows r) (λ a. mine p h' (r * rows + a) (c * cols + b))) (width N cols c) (λ b l.
        each_none (λ a. mine p h' (r * rows + a) (c * cols + b)) (width M rows r) (λ a k.
        mine_miss p (λ w. ne (
          w.0,
          sym (block_of N cols c l) ∙ ap (λ (y : ℕ). y / cols) w.1,
          sym (block_of M rows r k) ∙ ap (λ (y : ℕ). y / rows) w.2,
        ))))

    tile_mine : (n : ℕ) → n < total G → (x : X) → visit_tile G mine n x ≡ cond (holds G h i j n) (panel (panel_of G n) h i j x) x
    unfolding visit_tile holds MB NB
    tile_mine n below x = go (eqb (batch_of G n) h && (eqb (column_of G n) (j / cols) && eqb (row_of G n) (i / rows))) refl
      where
        go : (t : Bool) → (eqb (batch_of G n) h && (eqb (column_of G n) (j / cols) && eqb (row_of G n) (i / rows))) ≡ t
            → tile_at G mine (batch_of G n) (column_of G n) (panel_of G n) (row_of G n) x ≡ cond t (panel (panel_of G n) h i j x) x
        go true e =
            let w = each₃ (batch_of G n) (column_of G n) (row_of G n) h (j / cols) (i / rows) e in
            let v = tile_of G n below in
            (λ k. tile_at G mine (w.0 k) (w.1 k) (panel_of G n) (w.2 k) x) ∙ tile_hit (blocks_some M rows v.row) (blocks_some N cols v.column) (panel_of G n) x
        go false e =
            tile_miss (panel_of G n) (batch_of G n) (column_of G n) (row_of G n)
            (λ w. true≢false (sym (both₃ (batch_of G n) (column_of G n) (row_of G n) h (j / cols) (i / rows) w.0 w.1 w.2) ∙ e)) x

    walk_mine : (ns : List ℕ) → All (λ n. n < total G) ns → (x : X) → walk_tiles G mine ns x ≡ after (λ p. panel p h i j) (panels_of G ns h i j) x
    unfolding walk_tiles after panels_of
    walk_mine [] below x = refl
    walk_mine (n ∷ ns) below x = ap (walk_tiles G mine ns) (tile_mine n below.0 x) ∙ go (holds G h i j n) (walk_mine ns below.1)
      where
        go : (t : Bool) → ((x : X) → walk_tiles G mine ns x ≡ after (λ p. panel p h i j) (panels_of G ns h i j) x)
            → walk_tiles G mine ns (cond t (panel (panel_of G n) h i j x) x) ≡ after (λ p. panel p h i j) (map (panel_of G) (cons_if t n (keep (holds G h i j) ns))) x
        go true r = r (panel (panel_of G n) h i j x)
        go false r = r x

-- ---- all cells

module _ {S X : Type 0} (cells : Cells S X) (G : Cut) (addr : ℕ → ℕ → ℕ → ℕ) (panel : ℕ → ℕ → ℕ → ℕ → X → X) (s : S) (own : OwnPlaces G addr (cells.size s))
    (ns : List ℕ) (below : All (λ n. n < total G) ns) where
  open cells use {size, read}

  abbrev visit : ℕ → ℕ → ℕ → ℕ → S → S
  visit = visit_cell cells addr panel

  module _ (h i j : ℕ) (ix : InSizes G h i j) where
    -- a state of the same size, and its cell of h i j
    abbrev Sees : S → X → Type 0
    Sees s' x = (size s' ≡ size s) × (read (addr h i j) s' ≡ x)

    sees : (p h' i' j' : ℕ) → InSizes G h' i' j' → (s' : S) (x : X) → Sees s' x → Sees (visit p h' i' j' s') (mine G panel h i j p h' i' j' x)
    sees p h' i' j' ix' s' x c = (cells.kept _ _ s' ∙ c.0, go (eqb h' h && (eqb j' j && eqb i' i)) refl)
      where
        go : (t : Bool) → (eqb h' h && (eqb j' j && eqb i' i)) ≡ t → read (addr h i j) (visit p h' i' j' s') ≡ cond t (panel p h i j x) x
        go true e =
            let w = each₃ h' j' i' h j i e in
            (λ k. read (addr h i j) (visit p (w.0 k) (w.2 k) (w.1 k) s'))
            ∙ cells.same (addr h i j) (panel p h i j (read (addr h i j) s')) s' (rw c.0 (own.inside h i j ix))
            ∙ ap (panel p h i j) c.1
        go false e = cells.other (addr h' i' j') (addr h i j) (panel p h' i' j' (read (addr h' i' j') s')) s' apart ∙ c.1
          where
            apart : addr h' i' j' ≢ addr h i j
            apart q =
                let w = own.apart h' i' j' h i j ix' ix q in
                true≢false (sym (both₃ h' j' i' h j i w.0 w.2 w.1) ∙ e)

    panels_applied : read (addr h i j) (walk_tiles G visit ns s) ≡ after (λ p. panel p h i j) (panels_of G ns h i j) (read (addr h i j) s)
    panels_applied =
        (tiles_relate Sees G visit (mine G panel h i j) sees ns below s (read (addr h i j) s) (refl, refl)).1
        ∙ walk_mine G panel h i j ix.1 ix.2 ns below (read (addr h i j) s)

  becomes : Becomes cells addr G (λ h i j. after (λ p. panel p h i j) (panels_of G ns h i j)) s (walk_tiles G visit ns s)
  becomes =
      record {
        same_size = numbers_keep (λ s'. size s' ≡ size s) G visit (λ p h i j s' e. cells.kept _ _ s' ∙ e) ns s refl;
        addressed = panels_applied;
        others = λ y off. tiles_keep (λ s'. read y s' ≡ read y s) G visit (λ p h i j ix s' e. cells.other _ y _ s' (off h i j ix) ∙ e) ns below s refl;
      }

pub walk_becomes : EveryWalkAppliesPanels
walk_becomes S X = becomes
