-- The letter that the job program prints beside each word of D's slice.
-- Assumes nothing.
use Rattle.std.specs.Prelude.{ℕ, ◌<◌, ◌≡◌, ◌≢◌, List, length, get_or}
use Rattle.words.specs.Lists.{tabulate}
use Rattle.contraction.specs.declared.contraction.Contraction.{Contraction}
use Rattle.contraction.specs.declared.contraction.Operand.TheVariants.{D}
use Rattle.meaning.specs.Meaning.{Slices}
use Rattle.tiles.specs.declared.grid.Sizes.{Sizes}
use Rattle.tiles.specs.Cut.{InSizes}
use Rattle.tiles.specs.Progress.{state_at}
use Rattle.tiles.specs.Setting.{render}
use Rattle.tile_blocks.specs.ContractionInTiles.{cut_of, address_at, setting}
use Rattle.tile_questions.specs.TileQuestions.{Accepted}
use Rattle.letters.specs.PrintedLetters.{letter_of, outside}

-- the letters of D's words after t tiles: the word of each output index has that of its state, all others have `-`
unfoldable pub state_letters : Contraction → Sizes → Slices → ℕ → List ℕ
state_letters c z w t = render (setting c z w) (λ h i j was. letter_of (state_at (cut_of c z) t h i j)) (tabulate (length (w D)) (λ k. outside))

-- one letter for each word; at an output index's address the letter of its state; `-` where no output index lies
pub record LettersRight (c : Contraction) (z : Sizes) (w : Slices) (t : ℕ) : Type 0 where
  pub one_each : length (state_letters c z w t) ≡ length (w D)
  pub addressed : (h i j : ℕ) → InSizes (cut_of c z) h i j → get_or (state_letters c z w t) (address_at c h i j) 0 ≡ letter_of (state_at (cut_of c z) t h i j)
  pub others : (x : ℕ) → x < length (w D) → ((h i j : ℕ) → InSizes (cut_of c z) h i j → address_at c h i j ≢ x) → get_or (state_letters c z w t) x 0 ≡ outside

-- so it is for every accepted contraction after any number of tiles
abbrev pub EveryLetterRight : Type 0
EveryLetterRight = (c : Contraction) (z : Sizes) (w : Slices) (t : ℕ) → Accepted c z w → LettersRight c z w t
