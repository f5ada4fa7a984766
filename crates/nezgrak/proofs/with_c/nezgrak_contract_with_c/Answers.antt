-- `nezgrak_contract_with_c` meets its contract: it hands on what the plain call answers for the contraction that is handed in.
-- Assumes nothing.
use Rattle.nezgrak.proofs.Handed.{plain_handed, plain_same}
use Rattle.nezgrak.proofs.with_c.nezgrak_contract_with_c.Goals as goal

pub returns : goal.returns
returns c = plain_handed c.contract.result c.status_of.ensures c.contract.ensures (plain_same _ c.contraction_with_c-k.ensures)
