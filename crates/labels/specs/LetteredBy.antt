-- What is known of axes and the letters beside them. Inside contracts only.
-- Assumes nothing.
use Rattle.std.specs.Prelude.{◌≤◌}
use Rattle.limits.specs.Limits.{rank_limit}
use Rattle.layout.specs.declared.axes.Axes.{Axes}
use Rattle.layout.specs.Listed.{listed}
use Rattle.validity.specs.Checked.{Checked}
use Rattle.labels.specs.declared.letter_sets.Letters.{Letters}
use Rattle.labels.specs.LetterSets.{Spells}
use Rattle.labels.specs.Labels.{labels}

-- questions 1 and 3 to 5 passed of the axes, and the letters are theirs
pub record LetteredBy (x : Axes) (s : Letters) : Type 0 where
  pub checked : Checked x
  pub few : s.count ≤ rank_limit
  pub spells : Spells s (labels (listed x))
