-- The first label of a group as the code holds it. Inside contracts only.
-- Assumes nothing.
use Rattle.std.specs.Prelude.{◌≡◌, List}
use Rattle.words.specs.Words.{word_of}
use Rattle.contraction.specs.declared.contraction.Operand.{Operand}
use Rattle.groups.specs.Groups.{Label}
use Rattle.offsets.specs.Offsets.{words_in}
use Rattle.offsets.specs.FirstLabel.{first_label}
use Rattle.counts.specs.declared.first_label.FirstLabel.{FirstLabel}

-- the code's first label of a group
pub record FirstLabelOf (g : List Label) (r : FirstLabel) : Type 0 where
  pub len : r.len ≡ (first_label g).extent
  pub step : (o : Operand) → words_in r.step o ≡ word_of 64 ((first_label g).stride o)
