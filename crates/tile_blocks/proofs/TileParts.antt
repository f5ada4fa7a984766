-- A tile's blocks: each begins and ends inside its group. The tile of a number below the total has counts below the block counts, so its blocks begin inside;
-- only a last block is narrow, and there the group ends.
-- Assumes nothing.
use Rattle.std.proofs.Common.{◌≡◌, ℕ, ◌+◌, ◌*◌, ◌^◌, ◌<◌, ◌≤◌, ap, le_of_lt, arith}
use Rattle.limits.specs.Limits.{block_limit, depth_limit}
use Rattle.groups.specs.declared.groups.Group.{Group}
use Rattle.groups.specs.Groups.{batch, row, column, depth, size}
use Rattle.groups.specs.Held.{labels_in}
use Rattle.plan.specs.declared.plan.Plan.{Plan}
use Rattle.plan.specs.Plan.{planned}
use Rattle.tiles.specs.declared.grid.Grid.{Grid}
use Rattle.tiles.specs.declared.grid.Tile.{Tile}
use Rattle.tiles.specs.Cut.{Cut, width, total}
use Rattle.tiles.specs.Grid.{cut_in, TileOf}
use Rattle.tiles.proofs.Sizes.{M_small, N_small, K_small, tile_in}
use Rattle.tile_blocks.specs.Side.{Side, left, right, group_on, size_on, tile_on}
use Rattle.tile_blocks.specs.Planned.{GridOf}
use Rattle.tile_blocks.specs.TilePlaces.{Part, block_in, Begins}

pub part_ends : {limit : ℕ} {g : Group} {n b k w : ℕ} → Part limit g n b k → w ≡ width n b k → (size (labels_in g) < 2 ^ 32) × (k * b + w ≤ size (labels_in g)) × (w ≤ limit)
unfolding width
part_ends q e = (omega (arith, q.counts, q.small), omega (arith, q.counts, q.begins), omega (arith, q.within))

module _ {p : Plan} {g : Grid} (q : GridOf p g) where
  -- the tile of a number begins inside its groups
  pub tile_begins : {n : ℕ} {x : Tile} → n < total (cut_in g) → TileOf (cut_in g) n x → Begins (cut_in g) x
  tile_begins {n} {x} h t =
      let b : (x.batch < g.counts.batch) × (x.row * g.sizes.rows < g.counts.row)
      × (x.column * g.sizes.cols < g.counts.column) × (x.panel * g.sizes.depth ≤ g.counts.depth) =
      rw (t.batch, t.row, t.column, t.panel) (tile_in q.counted.fits h) in
      record { batch = b.0; side = elim [ left ↦ b.1 | right ↦ b.2 ]; panel = b.3 }

  -- what is asked of a tile's parts
  module _ {x : Tile} (b : Begins (cut_in g) x) where
    pub batch_in : x.batch < size (labels_in (planned p batch))
    batch_in = omega (arith, b.batch, ap (λ (G : Cut). G.H) q.same)

    pub side_part : (s : Side) → Part block_limit (planned p (group_on s)) (size_on (cut_in g) s) (tile_on (cut_in g) s) (block_in x s)
    side_part left =
        let f = q.counted.fits in
        record { few = q.few row; counts = ap (λ (G : Cut). G.M) q.same; small = M_small f; begins = le_of_lt (b.side left); within = f.rows_few }
    side_part right =
        let f = q.counted.fits in
        record { few = q.few column; counts = ap (λ (G : Cut). G.N) q.same; small = N_small f; begins = le_of_lt (b.side right); within = f.cols_few }

    pub panel_part : Part depth_limit (planned p depth) g.counts.depth g.sizes.depth x.panel
    panel_part =
        let f = q.counted.fits in
        record { few = q.few depth; counts = ap (λ (G : Cut). G.K) q.same; small = K_small f; begins = b.panel; within = f.depth_few }
