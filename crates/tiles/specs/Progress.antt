-- After t tiles, at the output index of batch count h, row count i and column count j: the panels done, and the state.
-- Assumes nothing.
use Rattle.std.specs.Prelude.{ℕ, ◌/◌, Bool, cond, ltb, eqb}
use Rattle.words.specs.Sums.{sum_to}
use Rattle.tiles.specs.Cut.{Cut, KB, tile_number}

-- old: no panel is done; final: all are; else part
pub data State : Type 0 where
  old part final : State

module _ (G : Cut) (t h i j : ℕ) where
  open G use {rows, cols}

  -- has panel p reached the word?
  unfoldable pub done : ℕ → Bool
  done p = ltb (tile_number G h (j / cols) p (i / rows)) t

  unfoldable pub done_count : ℕ
  done_count = sum_to (KB G) (λ p. cond (done p) 1 0)

  unfoldable pub state_at : State
  state_at = cond (eqb done_count 0) old (cond (eqb done_count (KB G)) final part)
