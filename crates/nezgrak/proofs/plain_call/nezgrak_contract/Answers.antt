-- `nezgrak_contract` meets its contract: it hands on what the plain call answers for the contraction that is handed in.
-- Assumes nothing.
use Rattle.nezgrak.proofs.Handed.{plain_handed, plain_unnamed}
use Rattle.nezgrak.proofs.plain_call.nezgrak_contract.Goals as goal

pub returns : goal.returns
returns c =
    plain_handed c.contract.result c.status_of.ensures c.contract.ensures
    (plain_unnamed _ _ _ _ _ _ _ _ _ c.contraction_of-k.ensures)
