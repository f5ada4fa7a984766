-- `of` meets its contract: `blocks_in` gives the block counts of the cut, and the panels are at least one. The counts and the products
-- are small enough, as the cut is in its limits.
-- Assumes nothing.
use mathlib.Core.Path.{◌≡◌, refl}
use Prim.Native.Nat.{ℕ, ◌*◌, ◌≤◌}
use native.Mathlib.Omega.{arith}
use Rattle.limits.specs.Limits.{product_limit}
use Rattle.tiles.specs.Cut.{Cut, cut_by, MB, NB, KB, total}
use Rattle.tiles.specs.Grid.{Fits}
use Rattle.tiles.proofs.Sizes.{M_small, N_small, K_small, columns_small, strips_small, sum_of_small}
use Rattle.tiles.proofs.grid.Grid.of.Goals as goal

-- the products of numbers that are those of the cut
products : {G : Cut} {r c p : ℕ} → Fits G → (r ≡ MB G) × (c ≡ NB G) × (p ≡ KB G)
    → (G.H * c ≤ product_limit) × (G.H * c * p ≤ product_limit) × (G.H * c * p * r ≤ product_limit) × (G.H * c * p * r ≡ total G)
unfolding total
products f (er, ec, ep) = rw (er, ec, ep) (columns_small f, strips_small f, sum_of_small f, refl)

pub blocks_in-row_blocks-requires : goal.blocks_in-row_blocks-requires
blocks_in-row_blocks-requires c = (c.requires.rows_pos, omega (arith, c.requires.rows_few, M_small c.requires))

pub blocks_in-column_blocks-requires : goal.blocks_in-column_blocks-requires
blocks_in-column_blocks-requires c = let f = c.requires in (f.cols_pos, omega (arith, f.cols_few, N_small f))

pub blocks_in-cut-requires : goal.blocks_in-cut-requires
blocks_in-cut-requires c = let f = c.requires in (f.depth_pos, omega (arith, f.depth_few, K_small f))

pub overflow_mul-total-2 : goal.overflow_mul-total-2
unfolding MB NB KB
overflow_mul-total-2 c =
    let p : c.max-panels.result ≡ KB (cut_by c.args.counts c.args.sizes) = omega arith in
    omega (arith, (products c.requires (c.blocks_in-row_blocks.ensures, c.blocks_in-column_blocks.ensures, p)).1)

pub overflow_mul-total-3 : goal.overflow_mul-total-3
unfolding MB NB KB
overflow_mul-total-3 c =
    let p : c.max-panels.result ≡ KB (cut_by c.args.counts c.args.sizes) = omega arith in
    omega (arith, (products c.requires (c.blocks_in-row_blocks.ensures, c.blocks_in-column_blocks.ensures, p)).2)

pub returns : goal.returns
unfolding MB NB KB
returns c =
    let f = c.requires in
    let p : c.max-panels.result ≡ KB (cut_by c.args.counts c.args.sizes) = omega arith in (
      refl,
      record {
        fits = f;
        row_blocks = c.blocks_in-row_blocks.ensures;
        column_blocks = c.blocks_in-column_blocks.ensures;
        panels = p;
        total = (products f (c.blocks_in-row_blocks.ensures, c.blocks_in-column_blocks.ensures, p)).3;
      },
    )
