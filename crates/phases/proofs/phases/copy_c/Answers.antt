-- `copy_c` meets its contract: the blocks of C and of D lie where the tile stands, so that each place that is read or written is inside, and C's word goes to the
-- place of the same output index in D.
-- Assumes nothing.
use Rattle.tiles.specs.Grid.{cut_in}
use Rattle.phases.proofs.TileSteps.{copyable, copied}
use Rattle.phases.proofs.phases.copy_c.Goals as goal

pub copy_tile-requires : goal.copy_tile-requires
copy_tile-requires c =
    let t = c.args.t in
    copyable t.plan.now (cut_in t.grid.now) t.at c.rows-rows.ensures c.columns-cols.ensures c.start-from.ensures
    c.rows-down.ensures c.columns-across.ensures c.start-to.ensures
    c.requires.0.grid.counted.fits c.requires.0.begins c.requires.1 c.requires.2

pub returns : goal.returns
returns c =
    let t = c.args.t in
    copied t.plan.now (cut_in t.grid.now) t.at c.rows-rows.ensures c.columns-cols.ensures c.start-from.ensures
    c.rows-down.ensures c.columns-across.ensures c.start-to.ensures c.args.c.now c.args.d.now c.copy_tile.ensures
