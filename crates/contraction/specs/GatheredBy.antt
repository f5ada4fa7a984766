-- What is known of the lists of the tensors' axes and the letters beside them. Inside contracts only.
-- Assumes nothing.
use Rattle.layout.specs.Listed.{listed}
use Rattle.labels.specs.declared.labelled.Labelled.{Labelled}
use Rattle.labels.specs.declared.letter_sets.Letters.{Letters}
use Rattle.labels.specs.Labels.{labels}
use Rattle.labels.specs.LetterSets.{Spells}
use Rattle.labels.specs.Lettered.{Lettered}
use Rattle.contraction.specs.Operands.{together}
use Rattle.contraction.specs.declared.contraction.Operand.{Operand}

-- questions 1 and 3 to 5 passed of each list, and the letters are those of all
pub record GatheredBy (x : Operand → Labelled) (letters : Letters) : Type 0 where
  pub each : (o : Operand) → Lettered (x o)
  pub all : Spells letters (labels (together (λ o. listed (x o).axes)))
