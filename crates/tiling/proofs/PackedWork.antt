-- The work slice after a call. What is in use of the last tile's blocks is there, zeros go past their edges, and the rest is as it was: these are the packed blocks
-- of the last tile.
-- Assumes nothing.
use mathlib.Core.Path.{◌≡◌, refl, ap, sym, ◌∙◌}
use mathlib.Core.List.{List, [], ◌∷◌, ◌++◌}
use Prim.Native.Nat.{ℕ, ◌+◌, ◌*◌, ◌≤◌}
use native.Mathlib.Omega.{arith}
use lib.ListN.{length, drop, length-append, length-drop}
use lib.Seq.{ext_get_or, get_or-drop}
use Rattle.words.specs.Lists.{tabulate}
use Rattle.words.proofs.Tabulate.{length_tabulate, tabulate_ext}
use Rattle.pack.proofs.Packing.{packed_ext}
use Rattle.plan.specs.declared.plan.Plan.{Plan}
use Rattle.tiles.specs.declared.grid.Tile.{Tile}
use Rattle.tiles.specs.Cut.{Cut}
use Rattle.tiles.specs.Grid.{TileOf}
use Rattle.tile_blocks.specs.Side.{Side, left, right}
use Rattle.tile_blocks.specs.Planned.{read_in}
use Rattle.tile_packs.specs.TilePacks.{packs, padded_word, padded}
use Rattle.tiling.specs.Work.{packed_block, packed, packed_last}
use Rattle.one_tile.specs.HeldPacks.{HeldAfter}

module _ (G : Cut) (entry : Side → ℕ → ℕ → ℕ → ℕ) where
  pub length_packed : (n : ℕ) (work : List ℕ) → packs G ≤ length work → length (packed G entry n work) ≡ length work
  unfolding packed
  length_packed n work h = simp (length-append, length_tabulate, length-drop) (omega arith)

  -- after a list of tiles that ends with tile n
  pub packed_end : (ns : List ℕ) (n : ℕ) (work : List ℕ) → packed_last G entry (ns ++ n ∷ []) work ≡ packed G entry n work
  unfolding packed_last
  packed_end [] n work = refl
  packed_end (m ∷ []) n work = refl
  packed_end (l ∷ m ∷ ns) n work = packed_end (m ∷ ns) n work

module _ (p : Plan) {G : Cut} {n : ℕ} {x : Tile} (t : TileOf G n x) (a b : List ℕ) {old work : List ℕ} (h : HeldAfter p G a b n old work) where
  -- a word of a block: in use, it is what was packed
  block_word : (s : Side) (y : ℕ) → padded_word G x s work y ≡ packed_block G (read_in p a b) s n y
  unfolding packed_block
  block_word left y = rw (t.row, t.panel) (packed_ext _ _ _ (λ l d i j. (h.blocks left).each l d i j) y)
  block_word right y = rw (t.column, t.panel) (packed_ext _ _ _ (λ l d i j. (h.blocks right).each l d i j) y)

  -- the rest
  rest_same : length work ≡ length old → drop (packs G) work ≡ drop (packs G) old
  rest_same e =
      ext_get_or 0 (drop (packs G) work) (drop (packs G) old) (simp length-drop (omega arith))
      (λ i k. get_or-drop (packs G) work i 0 ∙ h.rest (packs G + i) (omega arith) ∙ sym (get_or-drop (packs G) old i 0))

  pub padded_packed : length work ≡ length old → padded G x work ≡ packed G (read_in p a b) n old
  unfolding padded packed
  padded_packed e =
      ap (λ (l : List ℕ). tabulate (G.rows * G.depth) (padded_word G x left work) ++ (tabulate (G.cols * G.depth) (padded_word G x right work) ++ l)) (rest_same e)
      ∙ ap (λ (l : List ℕ). l ++ (tabulate (G.cols * G.depth) (padded_word G x right work) ++ drop (packs G) old)) (tabulate_ext (G.rows * G.depth) (λ y i. block_word left y))
      ∙ ap (λ (l : List ℕ). tabulate (G.rows * G.depth) (packed_block G (read_in p a b) left n) ++ (l ++ drop (packs G) old)) (tabulate_ext (G.cols * G.depth) (λ y i. block_word right y))
