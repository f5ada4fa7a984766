-- The visits of a list of tiles. What every visit keeps between two states, a walk keeps; and tiles may be run in parts.
-- Assumes nothing.
use mathlib.Core.Path.{◌≡◌, refl, sym, ap, ◌∙◌}
use mathlib.Core.List.{List, [], ◌∷◌, ◌++◌}
use Prim.Native.Nat.{ℕ, suc, ◌+◌, ◌*◌, ◌<◌, ◌≤◌}
use native.Mathlib.Omega.{arith}
use Rattle.words.specs.Sums.{All}
use Rattle.words.specs.Loops.{each}
use Rattle.words.proofs.Lists.{all_imp, all_of}
use Rattle.words.proofs.Loops.{each_relates}
use Rattle.words.proofs.Tabulate.{tabulate_ext, tabulate_suc, tabulate_add, all_tabulate}
use Rattle.tiles.specs.Cut.{Cut, width, InSizes, total, batch_of, column_of, panel_of, row_of}
use Rattle.tiles.specs.Setting.{tiles_from}
use Rattle.tiles.specs.TileWalk.{tile_at, visit_tile, walk_tiles}
use Rattle.tiles.proofs.Cuts.{place_in_lem}
use Rattle.tiles.proofs.Numbering.{tile_of}

-- ---- two states side by side

module _ {S S' : Type 0} (R : S → S' → Type 0) (G : Cut) (visit : ℕ → ℕ → ℕ → ℕ → S → S) (visit' : ℕ → ℕ → ℕ → ℕ → S' → S') where
  open G use {M, N, rows, cols}

  -- a visit keeps R
  abbrev pub Keeps : ℕ → ℕ → ℕ → ℕ → Type 0
  Keeps p h i j = (s : S) (s' : S') → R s s' → R (visit p h i j s) (visit' p h i j s')

  -- all visits of tile n do
  abbrev TileKeeps : ℕ → Type 0
  TileKeeps n = (a b : ℕ) → a < width M rows (row_of G n) → b < width N cols (column_of G n)
      → Keeps (panel_of G n) (batch_of G n) (row_of G n * rows + a) (column_of G n * cols + b)

  tile_relates : (n : ℕ) → TileKeeps n → (s : S) (s' : S') → R s s' → R (visit_tile G visit n s) (visit_tile G visit' n s')
  unfolding visit_tile tile_at
  tile_relates n keeps =
      each_relates R (λ b. each (width M rows (row_of G n)) (λ a. at visit a b)) (λ b. each (width M rows (row_of G n)) (λ a. at visit' a b)) (width N cols (column_of G n))
      (λ b k. each_relates R (λ a. at visit a b) (λ a. at visit' a b) (width M rows (row_of G n)) (λ a l. keeps a b l k))
    where
      at : {X : Type 0} → (ℕ → ℕ → ℕ → ℕ → X → X) → ℕ → ℕ → X → X
      at v a b = v (panel_of G n) (batch_of G n) (row_of G n * rows + a) (column_of G n * cols + b)

  walk_relates : (ns : List ℕ) → All TileKeeps ns → (s : S) (s' : S') → R s s' → R (walk_tiles G visit ns s) (walk_tiles G visit' ns s')
  unfolding walk_tiles
  walk_relates [] keeps s s' r = r
  walk_relates (n ∷ ns) keeps s s' r = walk_relates ns keeps.1 (visit_tile G visit n s) (visit_tile G visit' n s') (tile_relates n keeps.0 s s' r)

  -- a tile of the cut visits only output indices in range
  tile_keeps : (n : ℕ) → n < total G → ((h i j : ℕ) → InSizes G h i j → Keeps (panel_of G n) h i j) → TileKeeps n
  tile_keeps n l keeps a b x y =
      keeps (batch_of G n) (row_of G n * rows + a) (column_of G n * cols + b) ((tile_of G n l).batch, place_in_lem M rows (row_of G n) x, place_in_lem N cols (column_of G n) y)

  pub tiles_relate : ((p h i j : ℕ) → InSizes G h i j → Keeps p h i j) → (ns : List ℕ) → All (λ n. n < total G) ns
      → (s : S) (s' : S') → R s s' → R (walk_tiles G visit ns s) (walk_tiles G visit' ns s')
  tiles_relate keeps ns below = walk_relates ns (all_imp (λ n l. tile_keeps n l (keeps (panel_of G n))) ns below)

  -- any numbers, at any counts
  pub numbers_relate : ((p h i j : ℕ) → Keeps p h i j) → (ns : List ℕ) → (s : S) (s' : S') → R s s' → R (walk_tiles G visit ns s) (walk_tiles G visit' ns s')
  numbers_relate keeps ns =
      walk_relates ns (all_of (λ n a b x y. keeps (panel_of G n) (batch_of G n) (row_of G n * rows + a) (column_of G n * cols + b)) ns)

-- visits that do the same at the panel of a tile
pub visit_same : {S : Type 0} (G : Cut) (u v : ℕ → ℕ → ℕ → ℕ → S → S) (n : ℕ) (s : S)
    → ((h i j : ℕ) → InSizes G h i j → (s : S) → u (panel_of G n) h i j s ≡ v (panel_of G n) h i j s) → n < total G → visit_tile G u n s ≡ visit_tile G v n s
visit_same G u v n s same below =
    tile_relates ◌≡◌ G u v n (tile_keeps ◌≡◌ G u v n below (λ h i j k s s' e. ap (u (panel_of G n) h i j) e ∙ same h i j k s')) s s refl

-- ---- one state: the other is nothing

module _ {S : Type 0} (P : S → Type 0) (G : Cut) (visit : ℕ → ℕ → ℕ → ℕ → S → S) where
  abbrev first : S → Unit {0} → Type 0
  first s u = P s

  abbrev idle : ℕ → ℕ → ℕ → ℕ → Unit {0} → Unit {0}
  idle p h i j u = u

  pub tiles_keep : ((p h i j : ℕ) → InSizes G h i j → (s : S) → P s → P (visit p h i j s)) → (ns : List ℕ) → All (λ n. n < total G) ns
      → (s : S) → P s → P (walk_tiles G visit ns s)
  tiles_keep keeps ns below s = tiles_relate first G visit idle (λ p h i j k s u. keeps p h i j k s) ns below s tt

  pub numbers_keep : ((p h i j : ℕ) (s : S) → P s → P (visit p h i j s)) → (ns : List ℕ) (s : S) → P s → P (walk_tiles G visit ns s)
  numbers_keep keeps ns s = numbers_relate first G visit idle (λ p h i j s u. keeps p h i j s) ns s tt

-- ---- tiles may be run in parts

-- one number more
pub tiles_next : (t n : ℕ) → tiles_from t (suc n) ≡ tiles_from t n ++ (t + n) ∷ []
unfolding tiles_from
tiles_next t n = tabulate_suc n (λ k. t + k)

module _ {S : Type 0} (G : Cut) (visit : ℕ → ℕ → ℕ → ℕ → S → S) where
  walk_append : (ms ns : List ℕ) (s : S) → walk_tiles G visit (ms ++ ns) s ≡ walk_tiles G visit ns (walk_tiles G visit ms s)
  unfolding walk_tiles
  walk_append [] ns s = refl
  walk_append (m ∷ ms) ns s = walk_append ms ns (visit_tile G visit m s)

  -- for a loop: one tile more
  pub walk_next : (ns : List ℕ) (n : ℕ) (s : S) → walk_tiles G visit (ns ++ n ∷ []) s ≡ visit_tile G visit n (walk_tiles G visit ns s)
  unfolding walk_tiles
  walk_next ns n s = walk_append ns (n ∷ []) s

  -- from where the first t tiles left off
  pub walk_on : (t n : ℕ) (s : S) → walk_tiles G visit (tiles_from t n) (walk_tiles G visit (tiles_from 0 t) s) ≡ walk_tiles G visit (tiles_from 0 (t + n)) s
  unfolding tiles_from
  walk_on t n s =
      sym (walk_append (tiles_from 0 t) (tiles_from t n) s)
      ∙ ap (λ (ns : List ℕ). walk_tiles G visit (tiles_from 0 t ++ ns) s) (tabulate_ext n (λ k h. omega arith))
      ∙ ap (λ (ns : List ℕ). walk_tiles G visit ns s) (sym (tabulate_add t n (λ k. 0 + k)))

-- the numbers t, t + 1, .. up to the total are tiles
pub tiles_below : (G : Cut) (t n : ℕ) → t + n ≤ total G → All (λ k. k < total G) (tiles_from t n)
unfolding tiles_from
tiles_below G t n b = all_tabulate (λ k. k < total G) n (λ k. t + k) (λ k h. omega arith)
