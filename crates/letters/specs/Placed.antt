-- The letters as the code puts them, by the address words of a plan. Inside contracts only.
-- Assumes nothing.
use Rattle.std.specs.Prelude.{ℕ, ◌<◌, List}
use Rattle.words.specs.Loops.{each, put}
use Rattle.contraction.specs.declared.contraction.Operand.TheVariants.{D}
use Rattle.plan.specs.declared.plan.Plan.{Plan}
use Rattle.tiles.specs.Cut.{Cut}
use Rattle.tiles.specs.Progress.{state_at}
use Rattle.tile_blocks.specs.Planned.{place_of_output}
use Rattle.letters.specs.PrintedLetters.{letter_of}

module _ (p : Plan) (G : Cut) where
  -- each output index has its place in a slice of that many words
  pub record Placed (room : ℕ) : Type 0 where
    pub inside : (h i j : ℕ) → h < G.H → i < G.M → j < G.N → place_of_output p D h i j < room

  -- the letter of an output index after t tiles, put at its place
  abbrev pub lettered : ℕ → ℕ → ℕ → ℕ → List ℕ → List ℕ
  lettered t h i j = put (λ was. letter_of (state_at G t h i j)) (place_of_output p D h i j)

  -- the letters of all output indices of a batch count, each put at its place
  abbrev pub column_letters : ℕ → ℕ → List ℕ → List ℕ
  column_letters t h = each G.N (λ j. each G.M (λ i. lettered t h i j))
