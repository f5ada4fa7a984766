-- `contraction_of` meets its contract: it makes the three layouts, and the contraction of them.
-- Assumes nothing.
use mathlib.Core.Bool.{false}
use Rattle.flat.proofs.Made.{made}
use Rattle.flat.proofs.contraction_of.contraction_of.Goals as goal

pub returns : goal.returns
returns c =
    made false _ _ c.new.ensures c.layout_of.ensures c.layout_of-2.ensures c.layout_of-3.ensures
    c.layout_of-3.ensures
