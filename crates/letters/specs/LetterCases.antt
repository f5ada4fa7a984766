-- The letters that the job program prints.
-- Assumes nothing.
use Rattle.std.specs.Prelude.{◌≡◌, [], ◌∷◌}
use Rattle.words.specs.Texts.{codes}
use Rattle.tiles.specs.Progress.{old, part, final}
use Rattle.letters.specs.PrintedLetters.{letter_of, outside}

pub record LetterCases : Type 0 where
  -- "`o` old, `p` part, `f` final, or `-` outside the layout"
  pub printed : letter_of old ∷ letter_of part ∷ letter_of final ∷ outside ∷ [] ≡ codes "opf-"
