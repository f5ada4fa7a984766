-- `first_step` meets its contract: it is its first label's step in the tensor.
-- Assumes nothing.
use Rattle.std.proofs.Common.{◌∙◌}
use Rattle.counts.proofs.first_label.first_step.Goals as goal

pub returns : goal.returns
returns c = c.of-2.ensures ∙ c.of.ensures.step c.args.o
