-- `nezgrak_state_with_c` meets its contract: it hands on what the state question answers for the contraction that is handed in.
-- Assumes nothing.
use Rattle.nezgrak.proofs.Handed.{state_handed, state_same}
use Rattle.nezgrak.proofs.with_c.nezgrak_state_with_c.Goals as goal

pub returns : goal.returns
returns c =
    state_handed c.state-found.result _ c.status_of.ensures c.state_after.ensures c.state-found.ensures
    (state_same _ _ _ _ _ _ c.contraction_with_c-k.ensures)
