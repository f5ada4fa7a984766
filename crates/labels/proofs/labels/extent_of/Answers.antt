-- `extent_of` meets its contract: with no axes behind them.
-- Assumes nothing.
use Rattle.std.proofs.Common.{[], refl, ap, ◌∙◌, append-nil}
use Rattle.layout.specs.Listed.{listed}
use Rattle.labels.specs.Labels.{extent_of}
use Rattle.labels.proofs.labels.extent_of.Goals as goal

pub returns : goal.returns
returns c = let a = c.args in c.extent_or.ensures [] refl ∙ ap (extent_of a.c) (append-nil (listed a.x))
