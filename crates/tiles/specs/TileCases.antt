-- Tiles of 2 rows, 3 columns and depth 3 over batch size 2, row size 5, column size 4 and depth size 7: 3 row blocks, 2 column blocks, 3 panels.
-- Assumes nothing.
use Rattle.std.specs.Prelude.{ℕ, ◌+◌, ◌*◌, ◌≡◌, List, [], ◌∷◌, map}
use Rattle.tiles.specs.Cut.{Cut, width, MB, NB, KB, total, tile_number, batch_of, column_of, panel_of, row_of}
use Rattle.tiles.specs.Progress.{State, old, part, final, state_at}
use Rattle.tiles.specs.TileWalk.{panels_of, after}

abbrev pub small : Cut
small = record { H = 2; M = 5; N = 4; K = 7; rows = 2; cols = 3; depth = 3 }

-- the same with these four sizes
abbrev sized : ℕ → ℕ → ℕ → ℕ → Cut
sized H M N K = record { H = H; M = M; N = N; K = K; rows = 2; cols = 3; depth = 3 }

-- the state of the output index of batch count 1, row count 2 and column count 3 after each of these tiles
abbrev states : List ℕ → List State
states ts = map (λ t. state_at small t 1 2 3) ts

pub record TileCases : Type 0 where
  -- "With MB, NB, KB the three sizes divided by the tile sizes and rounded up": "The total is batch size × NB × KB × MB", "shorter at the edge"
  pub blocks : MB small ∷ NB small ∷ KB small ∷ [] ≡ 3 ∷ 2 ∷ 3 ∷ []
  pub all : total small ≡ 36
  pub widths : width 5 2 0 ∷ width 5 2 1 ∷ width 5 2 2 ∷ [] ≡ 2 ∷ 2 ∷ 1 ∷ []
  -- "the tile of batch count h, column block c, panel p and row block r has number ((h × NB + c) × KB + p) × MB + r": each digit alone, and all
  pub digits : tile_number small 1 0 0 0 ∷ tile_number small 0 1 0 0 ∷ tile_number small 0 0 1 0 ∷ tile_number small 0 0 0 1 ∷ [] ≡ 18 ∷ 9 ∷ 3 ∷ 1 ∷ []
  pub number : tile_number small 1 1 2 1 ≡ 34
  pub tile_34 : batch_of small 34 ∷ column_of small 34 ∷ panel_of small 34 ∷ row_of small 34 ∷ [] ≡ 1 ∷ 1 ∷ 2 ∷ 1 ∷ []
  -- "The state is old when no panel is done, final when all KB are, otherwise part": its panels are tiles 28, 31 and 34
  pub state_by_state : states (28 ∷ 29 ∷ 34 ∷ 35 ∷ []) ≡ old ∷ part ∷ part ∷ final ∷ []
  -- "Depth size 0 counts as one panel with no terms; a batch, row or column size 0 gives total 0": of 12 tiles, number 10 is that of the same index
  pub empty_depth : KB (sized 2 5 4 0) ∷ total (sized 2 5 4 0) ∷ width 0 3 0 ∷ [] ≡ 1 ∷ 12 ∷ 0 ∷ []
  pub old_then_final : map (λ t. state_at (sized 2 5 4 0) t 1 2 3) (10 ∷ 11 ∷ []) ≡ old ∷ final ∷ []
  pub no_tiles : total (sized 0 5 4 7) ∷ total (sized 2 0 4 7) ∷ total (sized 2 5 0 7) ∷ total (sized 2 0 4 0) ∷ [] ≡ 0 ∷ 0 ∷ 0 ∷ 0 ∷ []
  -- a list brings it these panels in the list's order, one of them twice, and tile 29 is of another row block; applied in that order, each as one more digit
  pub panels_listed : panels_of small (31 ∷ 28 ∷ 29 ∷ 34 ∷ 28 ∷ []) 1 2 3 ≡ 1 ∷ 0 ∷ 2 ∷ 0 ∷ []
  pub in_order : after (λ p x. 10 * x + p) (1 ∷ 0 ∷ 2 ∷ 0 ∷ []) 7 ≡ 71020
