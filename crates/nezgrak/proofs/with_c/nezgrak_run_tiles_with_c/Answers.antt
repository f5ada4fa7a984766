-- `nezgrak_run_tiles_with_c` meets its contract: it hands on what the tile call answers for the contraction that is handed in.
-- Assumes nothing.
use Rattle.nezgrak.proofs.Handed.{tiles_handed, tiles_same}
use Rattle.nezgrak.proofs.with_c.nezgrak_run_tiles_with_c.Goals as goal

pub returns : goal.returns
returns c =
    tiles_handed c.args.done c.run-outcome.result c.status_of.ensures c.done_of.ensures (c.complete_of.ensures c.args.done) c.run-outcome.ensures
    (tiles_same _ _ _ _ _ c.contraction_with_c-k.ensures)
