-- Tiles in ascending order: the first t bring to each output index its panels 0, 1, .., as many as are done after t tiles.
-- Assumes nothing.
use mathlib.Core.Path.{◌≡◌, refl, sym, ap, ◌∙◌}
use mathlib.Core.Logic.{◌≢◌}
use mathlib.Core.Bool.{Bool, true, false, true≢false}
use mathlib.Core.List.{List, [], ◌∷◌, ◌++◌, map, map-append, append-nil}
use Prim.Native.Nat.{ℕ, zero, suc, ◌+◌, ◌/◌, ◌<◌, ◌≤◌}
use native.Mathlib.Nat.{zero-add}
use native.Mathlib.Omega.{arith}
use Rattle.words.specs.Lists.{keep, cons_if, tabulate}
use Rattle.words.proofs.Tabulate.{tabulate_suc}
use Rattle.words.proofs.Lists.{keep_append}
use Rattle.tiles.specs.Cut.{Cut, InSizes, MB, NB, KB, total, tile_number, batch_of, column_of, panel_of, row_of}
use Rattle.tiles.specs.Progress.{done_count}
use Rattle.tiles.specs.Setting.{tiles_from}
use Rattle.tiles.specs.TileWalk.{holds, panels_of}
use Rattle.tiles.proofs.Cuts.{block_lt}
use Rattle.tiles.proofs.Numbering.{row_number, column_number, batch_number, number_of, tile_of}
use Rattle.tiles.proofs.Progress.{tile, Reached, reached, reached_count, reached_here, reached_next, reached_skip, reached_none, reached_all}
use Rattle.tiles.proofs.Visits.{tiles_next}
use Rattle.tiles.proofs.Walked.{each₃, both₃}

panels_append : (G : Cut) (ms ns : List ℕ) (h i j : ℕ) → panels_of G (ms ++ ns) h i j ≡ panels_of G ms h i j ++ panels_of G ns h i j
unfolding panels_of
panels_append G ms ns h i j = ap (map (panel_of G)) (keep_append (holds G h i j) ms ns) ∙ map-append (panel_of G) (keep (holds G h i j) ms) (keep (holds G h i j) ns)

module _ (G : Cut) (rows_pos : 0 < G.rows) (cols_pos : 0 < G.cols) (h i j : ℕ) (ix : InSizes G h i j) where
  open G use {rows, cols}

  in_column : j / cols < NB G
  unfolding NB
  in_column = block_lt cols_pos ix.2

  in_row : i / rows < MB G
  unfolding MB
  in_row = block_lt rows_pos ix.1

  -- a tile that holds the index is the one of its panel there
  held_tile : (n : ℕ) → holds G h i j n ≡ true → tile G h i j (panel_of G n) ≡ n
  unfolding holds
  held_tile n e =
      let w = each₃ (batch_of G n) (column_of G n) (row_of G n) h (j / cols) (i / rows) e in
      (λ k. tile_number G (sym w.0 k) (sym w.1 k) (panel_of G n) (sym w.2 k)) ∙ number_of G n

  -- and such a tile holds it
  tile_holds : (p : ℕ) → p < KB G → holds G h i j (tile G h i j p) ≡ true
  unfolding holds
  tile_holds p b = both₃ _ _ _ h (j / cols) (i / rows) (batch_number G h in_column b in_row) (column_number G h in_column b in_row) (row_number G h (j / cols) p in_row)

  -- one tile more
  step : (t : ℕ) → t < total G → panels_of G (tiles_from 0 t) h i j ≡ tabulate (done_count G t h i j) (λ k. k)
      → panels_of G (tiles_from 0 t) h i j ++ panels_of G (t ∷ []) h i j ≡ tabulate (done_count G (suc t) h i j) (λ k. k)
  unfolding panels_of
  step t b e = go (holds G h i j t) refl
    where
      go : (x : Bool) → holds G h i j t ≡ x
          → panels_of G (tiles_from 0 t) h i j ++ map (panel_of G) (cons_if x t []) ≡ tabulate (done_count G (suc t) h i j) (λ k. k)
      go true f =
          ap (λ (l : List ℕ). l ++ p ∷ []) (e ∙ ap (λ (n : ℕ). tabulate n (λ k. k)) now)
          ∙ sym (tabulate_suc p (λ k. k))
          ∙ ap (λ (n : ℕ). tabulate n (λ k. k)) (sym next)
        where
          p : ℕ
          p = panel_of G t

          is_t : tile G h i j p ≡ t
          is_t = held_tile t f

          now : done_count G t h i j ≡ p
          now = ap (λ (n : ℕ). done_count G n h i j) (sym is_t) ∙ reached_count G h i j (reached_here G h i j in_row p (tile_of G t b).panel)

          next : done_count G (suc t) h i j ≡ suc p
          next = ap (λ (n : ℕ). done_count G (suc n) h i j) (sym is_t) ∙ reached_count G h i j (reached_next G h i j in_row p (tile_of G t b).panel)
      go false f =
          append-nil _ ∙ e
          ∙ ap (λ (n : ℕ). tabulate n (λ k. k)) (reached_count G h i j r.1 ∙ sym (reached_count G h i j (reached_skip G h i j other r.1)))
        where
          r : (q : ℕ) × Reached G h i j t q
          r = reached G h i j t

          other : (p : ℕ) → p < KB G → tile G h i j p ≢ t
          other p k q = true≢false (sym (tile_holds p k) ∙ ap (holds G h i j) q ∙ f)

  pub panels_ascending : (t : ℕ) → t ≤ total G → panels_of G (tiles_from 0 t) h i j ≡ tabulate (done_count G t h i j) (λ k. k)
  unfolding tiles_from panels_of
  panels_ascending zero b = ap (λ (n : ℕ). tabulate n (λ k. k)) (sym (reached_count G h i j (reached_none G h i j)))
  panels_ascending (suc t) b =
      ap (λ (ns : List ℕ). panels_of G ns h i j) (tiles_next 0 t)
      ∙ panels_append G (tiles_from 0 t) ((0 + t) ∷ []) h i j
      ∙ ap (λ (n : ℕ). panels_of G (tiles_from 0 t) h i j ++ panels_of G (n ∷ []) h i j) (zero-add t)
      ∙ step t b (panels_ascending t (omega arith))

  pub all_done : Reached G h i j (total G) (KB G)
  all_done = reached_all G h i j ix.0 in_column in_row
