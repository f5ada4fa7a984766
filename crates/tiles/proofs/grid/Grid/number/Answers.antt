-- `number` meets its contract: the grid's block counts are those of its cut, and each step to a tile's number stays below the limit of a product.
-- Assumes nothing.
use mathlib.Core.Path.{refl}
use Prim.Native.Nat.{ℕ, ◌+◌, ◌*◌, ◌<◌}
use native.Mathlib.Omega.{arith}
use Rattle.limits.specs.Limits.{product_limit}
use Rattle.tiles.specs.declared.grid.Grid.{Grid}
use Rattle.tiles.specs.Cut.{NB, KB, MB, tile_number}
use Rattle.tiles.specs.Grid.{cut_in, Counted}
use Rattle.tiles.proofs.Sizes.{number_small}
use Rattle.tiles.proofs.grid.Grid.number.Goals as goal

-- the steps, by the block counts that the grid holds
steps : {g : Grid} {h c p r : ℕ} → Counted g × (h < (cut_in g).H) × (c < NB (cut_in g)) × (p < KB (cut_in g)) × (r < MB (cut_in g))
    → (h * g.column_blocks + c < product_limit)
    × ((h * g.column_blocks + c) * g.panels + p < product_limit)
    × (((h * g.column_blocks + c) * g.panels + p) * g.row_blocks + r < product_limit)
steps (k, bh, bc, bp, br) =
    rw (k.column_blocks, k.panels, k.row_blocks) (number_small k.fits (record { batch = bh; column = bc; panel = bp; row = br }))

pub overflow_mul-result-2 : goal.overflow_mul-result-2
overflow_mul-result-2 c = omega (arith, (steps c.requires).1)

pub overflow_add-result-2 : goal.overflow_add-result-2
overflow_add-result-2 c = omega (arith, (steps c.requires).1)

pub overflow_mul-result-3 : goal.overflow_mul-result-3
overflow_mul-result-3 c = omega (arith, (steps c.requires).2)

pub overflow_add-result-3 : goal.overflow_add-result-3
overflow_add-result-3 c = omega (arith, (steps c.requires).2)

pub returns : goal.returns
unfolding tile_number
returns c =
    let k = c.requires.0 in
    rw (k.column_blocks, k.panels, k.row_blocks) refl
