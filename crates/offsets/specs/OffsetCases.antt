-- The offsets of the counts of a group with a label of extent 2 and stride 1 and one of extent 3 and stride 10.
-- Assumes nothing.
use Rattle.std.specs.Prelude.{◌≡◌, List, [], ◌∷◌, pos}
use Rattle.words.specs.Lists.{tabulate}
use Rattle.words.specs.Words.{up}
use Rattle.contraction.specs.declared.contraction.Operand.TheVariants.{A}
use Rattle.groups.specs.Groups.{Label}
use Rattle.offsets.specs.Counts.{offset_in}

abbrev pair : List Label
pair = record { letter = 105; extent = 2; stride = λ o. pos 1 } ∷ record { letter = 106; extent = 3; stride = λ o. pos 10 } ∷ []

pub record OffsetCases : Type 0 where
  -- "In a group the first label runs fastest, so each group counts 0, 1, 2 .. up to its size"
  pub first_fastest : tabulate 6 (offset_in up A pair) ≡ 0 ∷ 1 ∷ 10 ∷ 11 ∷ 20 ∷ 21 ∷ []
