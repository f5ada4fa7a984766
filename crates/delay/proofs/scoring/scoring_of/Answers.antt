-- `scoring_of` meets its contract: the three layouts are those of the definition.
-- Assumes nothing.
use mathlib.Core.Path.{◌∙◌}
use Rattle.contraction.specs.Operands.{contraction_of}
use Rattle.delay.specs.Scoring.{scoring}
use Rattle.delay.proofs.scoring.scoring_of.Goals as goal

pub returns : goal.returns
unfolding scoring
returns c =
    c.new.ensures ∙ (λ i. contraction_of (c.two_labels-x.ensures i) (c.one_label-y.ensures i) (c.one_label-d.ensures i) 1 0)
