-- `run_tiles` meets its contract. The invariant: from `done` to t each tile was run, so D's words are those that they leave, one after the other; the work slice is
-- as it was at first, after a tile that was packed it holds that one's blocks, and the words behind them are as they were. A turn runs tile t, and packs it where it
-- is the last. Zeros past the edges then make these the packed blocks of the last tile.
-- Assumes nothing.
use Rattle.std.specs.Prelude.{is_some}
use Rattle.tiles.specs.Grid.{cut_in}
use Rattle.phases.specs.Phases.{words_of_c}
use Rattle.tiling.proofs.TilesRun.{Run}
use Rattle.tiling.proofs.run_tiles.run_tiles.Given as goal

abbrev pub invariant-loop-t : goal.invariant-loop-t
invariant-loop-t l =
    let k = l.k in
    Run k.plan.now (cut_in k.grid.now) (is_some k.c) k.alpha k.beta k.a.now k.b.now (words_of_c k.c) l.done l.end l.initial.d l.initial.work l.t l.held l.d l.work
