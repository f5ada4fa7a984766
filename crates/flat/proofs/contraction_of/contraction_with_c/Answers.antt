-- `contraction_with_c` meets its contract: it makes the four layouts, and the contraction of them.
-- Assumes nothing.
use mathlib.Core.Bool.{true}
use Rattle.flat.proofs.Made.{made}
use Rattle.flat.proofs.contraction_of.contraction_with_c.Goals as goal

pub returns : goal.returns
returns c =
    made true _ _ c.with_c.ensures c.layout_of.ensures c.layout_of-2.ensures
    c.layout_of-3.ensures c.layout_of-4.ensures
