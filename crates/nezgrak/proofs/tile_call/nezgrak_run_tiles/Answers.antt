-- `nezgrak_run_tiles` meets its contract: it hands on what the tile call answers for the contraction that is handed in.
-- Assumes nothing.
use Rattle.nezgrak.proofs.Handed.{tiles_handed, tiles_unnamed}
use Rattle.nezgrak.proofs.tile_call.nezgrak_run_tiles.Goals as goal

pub returns : goal.returns
returns c =
    tiles_handed c.args.done c.run-outcome.result c.status_of.ensures c.done_of.ensures (c.complete_of.ensures c.args.done) c.run-outcome.ensures
    (tiles_unnamed _ _ _ _ _ _ _ _ _ c.contraction_of-k.ensures _ _ _ _)
