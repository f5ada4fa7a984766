-- The tiled engine where C is not named.
-- Assumes nothing.
use Rattle.std.specs.Prelude.{ℕ, ◌≡◌, false, List}
use Rattle.layout.specs.declared.layout.Layout.{Layout}
use Rattle.contraction.specs.Operands.{four, three, contraction_if, contraction_of}
use Rattle.tiles.specs.declared.grid.Sizes.{Sizes}
use Rattle.tiled.specs.TileCall.{tile_call, state_call}

-- "the form without C behaves as before": words that stand in C's place are neither asked about nor read, and there is no layout in C's place
pub record TilesWithoutC (a b c d : Layout) (alpha beta : ℕ) (z : Sizes) (wa wb wc wd : List ℕ) : Type 0 where
  pub tiles : (work : List ℕ) (t budget : ℕ)
      → tile_call (contraction_if false a b c d alpha beta) z (four wa wb wc wd) work t budget
      ≡ tile_call (contraction_of a b d alpha beta) z (three wa wb wd) work t budget
  pub states : (t h i j : ℕ)
      → state_call (contraction_if false a b c d alpha beta) z (four wa wb wc wd) t h i j
      ≡ state_call (contraction_of a b d alpha beta) z (three wa wb wd) t h i j

-- for all layouts and words
abbrev pub TilesWithoutCHold : Type 0
TilesWithoutCHold = (a b c d : Layout) (alpha beta : ℕ) (z : Sizes) (wa wb wc wd : List ℕ) → TilesWithoutC a b c d alpha beta z wa wb wc wd
