-- A tile's block of a side: its counts are the group's, each place that it reads is inside, and what is packed is the entry at the tile's counts.
-- Assumes nothing.
use mathlib.Core.Path.{◌≡◌, ap, ◌∙◌}
use mathlib.Core.List.{List}
use Prim.Native.Nat.{ℕ, ◌+◌, ◌*◌, ◌<◌, ◌≤◌}
use native.Mathlib.Nat.{le_trans, mul-le-mul_left}
use native.Mathlib.Omega.{arith}
use lib.ListN.{get_or}
use Rattle.limits.specs.Limits.{block_limit}
use Rattle.contraction.specs.declared.contraction.Operand.{Operand}
use Rattle.groups.specs.Groups.{depth}
use Rattle.groups.specs.Held.{labels_in}
use Rattle.plan.specs.declared.plan.Plan.{Plan}
use Rattle.plan.specs.Plan.{planned}
use Rattle.block.specs.declared.block.Block.{Block}
use Rattle.block.specs.Places.{place_of, InLane}
use Rattle.stretch.specs.StretchLanes.{lanes_stored}
use Rattle.stretch.proofs.StretchLanes.{lanes_ext}
use Rattle.pack.specs.PackNeeds.{Packable}
use Rattle.tiles.specs.declared.grid.Tile.{Tile}
use Rattle.tiles.specs.Cut.{Cut}
use Rattle.tiles.specs.Grid.{Fits}
use Rattle.tiles.proofs.Cuts.{width_le, place_in_lem}
use Rattle.tile_blocks.specs.Side.{Side, left, right, tensor_on, size_on, tile_on}
use Rattle.tile_blocks.specs.Planned.{at_batch, place_in}
use Rattle.tile_blocks.specs.PlannedTiles.{SideBlock}
use Rattle.tile_blocks.specs.TilePlaces.{block_in, Begins, Starts}
use Rattle.tile_packs.specs.TilePacks.{panel_width, SideClear, side_lanes}

-- no lane is wider than a block can be
narrow : (s : Side) {G : Cut} → Fits G → tile_on G s ≤ block_limit
narrow left f = f.rows_few
narrow right f = f.cols_few

module _ (p : Plan) (G : Cut) (x : Tile) where
  -- a block has a place for each of its counts
  pub in_lane : (s : Side) {o : Operand} {b : Block} → SideBlock p G x o s b → Fits G → InLane (tile_on G s) b.count
  in_lane s r f = record { fits = rw r.used (width_le (size_on G s) (tile_on G s) (block_in x s)); narrow = narrow s f }

  -- its counts are the group's
  pub count_in : (s : Side) {o : Operand} {b : Block} → SideBlock p G x o s b → {l : ℕ} → l < b.count → block_in x s * tile_on G s + l < size_on G s
  count_in s r h = place_in_lem (size_on G s) (tile_on G s) (block_in x s) (rw r.used at h)

  -- ---- a side's block is packed
  module _ (s : Side) {b : Block} (r : SideBlock p G x (tensor_on s) s b) {from : ℕ} (e : from ≡ at_batch p x.batch (tensor_on s))
      {starts : List ℕ} {filled : ℕ} (f : filled ≡ panel_width G x) (t : Starts (tensor_on s) from (labels_in (planned p depth)) (x.panel * G.depth) filled starts) where
    pub place_at : (l k : ℕ) → l < b.count → k < filled
        → place_of (get_or starts k 0) b.offsets l ≡ place_in p s x.batch (block_in x s * tile_on G s + l) (x.panel * G.depth + k)
    unfolding place_in
    place_at l k h m = rw (t.each k m, r.offsets l (rw r.used at h), e)

    pub side_packable : {src out : ℕ} → Fits G → Begins G x → SideClear p G s src out → Packable starts filled b (tile_on G s) src out
    side_packable fits begins clear =
        let shallow : filled ≤ G.depth = rw f (width_le G.K G.depth x.panel) in
        record {
          lane = in_lane s r fits;
          measured = rw r.used r.lengths;
          lanes = le_trans shallow fits.depth_few;
          reads =
              record {
                each = λ k h. record {
                  each = λ l m. rw (place_at l k m h) (clear.reads _ _ _ begins.batch (count_in s r m) (place_in_lem G.K G.depth x.panel (rw f at h)));
                };
              };
          room = omega (arith, clear.room, mul-le-mul_left (tile_on G s) shallow);
        }

    pub side_packed_lem : (src out : List ℕ) {after : List ℕ}
        → after ≡ lanes_stored filled b.count (tile_on G s) (λ k l. get_or src (place_of (get_or starts k 0) b.offsets l) 0) 0 out
        → after ≡ side_lanes p G x s src 0 out
    unfolding side_lanes
    side_packed_lem src out q =
        q
        ∙ lanes_ext (tile_on G s) filled b.count _ (λ d l. get_or src (place_in p s x.batch (block_in x s * tile_on G s + l) (x.panel * G.depth + d)) 0) 0 out
        (λ k l m h. ap (λ (z : ℕ). get_or src z 0) (place_at l k h m))
        ∙ rw (r.used, f)
