-- A list of axes beside its different letters. Inside contracts only.
-- Assumes nothing.
use Rattle.labels.specs.declared.labelled.Labelled.{Labelled}
use Rattle.labels.specs.LetteredBy.{LetteredBy}

-- questions 1 and 3 to 5 passed of the axes, and the letters are theirs
abbrev pub Lettered : Labelled → Type 0
Lettered x = LetteredBy x.axes x.letters
