-- `nezgrak_state` meets its contract: it hands on what the state question answers for the contraction that is handed in.
-- Assumes nothing.
use Rattle.nezgrak.proofs.Handed.{state_handed, state_unnamed}
use Rattle.nezgrak.proofs.state_call.nezgrak_state.Goals as goal

pub returns : goal.returns
returns c =
    state_handed c.state-found.result _ c.status_of.ensures c.state_after.ensures c.state-found.ensures
    (state_unnamed _ _ _ _ _ _ _ _ _ c.contraction_of-k.ensures _ _ _ _ _)
