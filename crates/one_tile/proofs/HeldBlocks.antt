-- The work slice between the tiles of a call. Packing a side leaves the tile's block of it, and the other block and the rest as they were. B's block depends on the
-- tile's batch count, column block and panel alone, which it shares with the tile before unless its row block is the first.
-- Assumes nothing.
use mathlib.Core.Path.{◌≡◌, refl, ap, ◌∙◌}
use mathlib.Core.Bool.{Bool, true, false, cond, ◌&&◌}
use mathlib.Core.Logic.{◌⊎◌, inl, inr}
use mathlib.Core.List.{List}
use Prim.Native.Nat.{ℕ, zero, suc, ◌+◌, ◌-◌, ◌*◌, ◌/◌, ◌%◌, ◌≤◌, ◌<◌}
use native.Mathlib.Nat.{le_refl, mul-zero, mul-le-mul_left, div-add-mod', mod-lt}
use native.Mathlib.Omega.{arith}
use lib.Arith.{digits_div}
use lib.Dec.{ltb}
use lib.ListN.{length, get_or}
use borrow.Author.Tests.{ltb-true}
use Rattle.words.proofs.Lanes.{lane_inside}
use Rattle.pack.proofs.Packing.{length_lanes, lanes_other, lanes_at}
use Rattle.plan.specs.declared.plan.Plan.{Plan}
use Rattle.tiles.specs.declared.grid.Tile.{Tile}
use Rattle.tiles.specs.Cut.{Cut, MB, NB, KB, total, width, batch_of, column_of, panel_of, row_of}
use Rattle.tiles.specs.Grid.{TileOf}
use Rattle.tiles.proofs.Cuts.{width_le}
use Rattle.tile_blocks.specs.Side.{Side, left, right, both, size_on, tile_on, block_on}
use Rattle.tile_packs.specs.TilePacks.{packs, side_width, panel_width, block_start, work_place, side_lanes, side_packed, renewed}
use Rattle.one_tile.specs.HeldPacks.{Holds, HeldAfter}

module _ (p : Plan) (G : Cut) (x : Tile) (s : Side) (src work : List ℕ) where
  narrow : side_width G x s ≤ tile_on G s
  narrow = width_le _ _ _

  shallow : tile_on G s * panel_width G x ≤ tile_on G s * G.depth
  shallow = mul-le-mul_left (tile_on G s) (width_le _ _ _)

  length_side : length (side_packed p G x s src work) ≡ length work
  unfolding side_lanes
  length_side = length_lanes (tile_on G s) (side_width G x s) _ (block_start G s) work (panel_width G x)

  -- places in front of the block, and behind it
  side_other : (i : ℕ) → (i < block_start G s) ⊎ (block_start G s + tile_on G s * G.depth ≤ i) → get_or (side_packed p G x s src work) i 0 ≡ get_or work i 0
  unfolding side_lanes
  side_other i (inl h) = lanes_other (tile_on G s) (side_width G x s) _ (block_start G s) work (panel_width G x) i narrow (inl h)
  side_other i (inr h) = lanes_other (tile_on G s) (side_width G x s) _ (block_start G s) work (panel_width G x) i narrow (inr (omega (arith, h, shallow)))

-- where there is a tile, there is a row block
pub some_rows : (G : Cut) {n : ℕ} → n < total G → 0 < MB G
unfolding total
some_rows G h = go (G.H * NB G * KB G) (MB G) h
  where
    go : (k m : ℕ) {n : ℕ} → n < k * m → 0 < m
    go k zero h = absurd (omega (arith, h, mul-zero k))
    go k (suc m) h = omega arith

module _ (p : Plan) (G : Cut) (a b : List ℕ) where
  -- a block's place in use is inside it
  place_in_block : (s : Side) (n l d : ℕ) → l < width (size_on G s) (tile_on G s) (block_on G n s) → d < width G.K G.depth (panel_of G n)
      → tile_on G s * d + l < tile_on G s * G.depth
  place_in_block s n l d h k = omega (arith, h, width_le (size_on G s) (tile_on G s) (block_on G n s), lane_inside (tile_on G s) k (width_le G.K G.depth (panel_of G n)) (le_refl (tile_on G s * G.depth)))

  -- what a block holds stays where its words do
  pub kept : (s : Side) (n : ℕ) {old new : List ℕ} → ((i : ℕ) → block_start G s ≤ i → i < block_start G s + tile_on G s * G.depth → get_or new i 0 ≡ get_or old i 0)
      → Holds p G a b s n old → Holds p G a b s n new
  kept s n same h =
      record { each = λ l d i k. same (work_place G s l d) (omega arith) (omega (arith, place_in_block s n l d i k)) ∙ h.each l d i k }

  -- B's block of the tile before, where the row block is not the first
  module _ (n : ℕ) (some : 0 < MB G) (h : 0 < row_of G n) where
    same_strip : (n - 1) / MB G ≡ n / MB G
    unfolding row_of
    same_strip =
        let whole : n / MB G * MB G + n % MB G ≡ n = div-add-mod' n (MB G) in
        let less : n % MB G < MB G = mod-lt n some in
        let one_less : n - 1 ≡ n / MB G * MB G + (n % MB G - 1) = omega (arith, whole, h) in
        ap (λ (y : ℕ). y / MB G) one_less ∙ digits_div (n / MB G) (omega (arith, less))

    same_batch : batch_of G (n - 1) ≡ batch_of G n
    unfolding batch_of
    same_batch = ap (λ (y : ℕ). y / KB G / NB G) same_strip

    same_column : column_of G (n - 1) ≡ column_of G n
    unfolding column_of
    same_column = ap (λ (y : ℕ). y / KB G % NB G) same_strip

    same_panel : panel_of G (n - 1) ≡ panel_of G n
    unfolding panel_of
    same_panel = ap (λ (y : ℕ). y % KB G) same_strip

    pub held_on : {work : List ℕ} → Holds p G a b right (n - 1) work → Holds p G a b right n work
    held_on k = record { each = λ l d. rw (← same_batch, ← same_column, ← same_panel) (k.each l d) }

  module _ {n : ℕ} {x : Tile} (t : TileOf G n x) where
    pub side_holds : (s : Side) (work : List ℕ) → block_start G s + tile_on G s * G.depth ≤ length work → Holds p G a b s n (side_packed p G x s (both a b s) work)
    unfolding side_lanes
    side_holds left work room =
        record {
          each =
              λ l d. rw (t.batch, t.row, t.panel)
              (λ i j. lanes_at G.rows _ _ 0 work _ d l (width_le _ _ _) (omega (arith, room, mul-le-mul_left G.rows (width_le G.K G.depth (panel_of G n)))) j i);
        }
    side_holds right work room =
        record {
          each =
              λ l d. rw (t.batch, t.column, t.panel)
              (λ i j. lanes_at G.cols _ _ (G.rows * G.depth) work _ d l (width_le _ _ _) (omega (arith, room, mul-le-mul_left G.cols (width_le G.K G.depth (panel_of G n)))) j i);
        }

    -- after both phases of packing, where B's block of the tile before was held
    module _ (some : 0 < MB G) (held : Bool) (work : List ℕ) (room : packs G ≤ length work) (h : held ≡ true → Holds p G a b right (n - 1) work) where
      abbrev first : List ℕ
      first = side_packed p G x left a work

      first_behind : (i : ℕ) → G.rows * G.depth ≤ i → get_or first i 0 ≡ get_or work i 0
      first_behind i k = side_other p G x left a work i (inr (omega arith))

      first_length : length first ≡ length work
      first_length = length_side p G x left a work

      -- B's block was left
      pub left_there : held ≡ true → 0 < x.row → HeldAfter p G a b n work first
      left_there e k =
          record {
            blocks =
                elim [
                  | left ↦ side_holds left work (omega arith)
                  | right ↦ kept right n (λ i c d. first_behind i c) (held_on n some (rw t.row at k) (h e))
                ];
            rest = λ i c. first_behind i (omega arith);
          }

      -- it is packed anew
      pub packed_anew : HeldAfter p G a b n work (side_packed p G x right b first)
      packed_anew =
          record {
            blocks =
                elim [
                  | left ↦ kept left n (λ i c d. side_other p G x right b first i (inl (omega arith))) (side_holds left work (omega arith))
                  | right ↦ side_holds right first (omega (arith, first_length))
                ];
            rest = λ i c. side_other p G x right b first i (inr (omega arith)) ∙ first_behind i (omega arith);
          }

      pub held_after : HeldAfter p G a b n work (renewed p G x held b first)
      held_after = go held refl (ltb 0 x.row) refl
        where
          go : (y : Bool) → held ≡ y → (z : Bool) → ltb 0 x.row ≡ z → HeldAfter p G a b n work (cond (y && z) first (side_packed p G x right b first))
          go true e true f = left_there e (ltb-true 0 x.row f)
          go true e false f = packed_anew
          go false e z f = packed_anew
