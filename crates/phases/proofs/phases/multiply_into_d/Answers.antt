-- `multiply_into_d` meets its contract: D's row and column blocks lie where the tile stands, so that each place that is written is inside; where the work slice has
-- the tile's packed blocks, the kernel's sums of them are the panel's.
-- Assumes nothing.
use Rattle.tiles.specs.Grid.{cut_in}
use Rattle.phases.proofs.TileSteps.{multipliable, multiplied}
use Rattle.phases.proofs.phases.multiply_into_d.Goals as goal

pub multiply-requires : goal.multiply-requires
multiply-requires c =
    let t = c.args.t in
    multipliable t.plan.now (cut_in t.grid.now) t.at c.rows-rows.ensures c.columns-columns.ensures c.start-from.ensures c.filled.ensures
    c.requires.0.grid.counted.fits c.requires.0.begins c.requires.1 c.requires.2

pub returns : goal.returns
returns c =
    let s = c.args in
    let t = s.t in
    record {
      tile = λ a b w.
          multiplied t.plan.now (cut_in t.grid.now) t.at c.rows-rows.ensures c.columns-columns.ensures c.start-from.ensures c.filled.ensures s.alpha s.beta c.then_some.ensures
          a b w s.d.now c.multiply.ensures;
    }
