-- The work slice: the packed blocks of the last tile run, and the rest unchanged.
-- Assumes nothing.
use Rattle.std.specs.Prelude.{ℕ, ◌+◌, ◌*◌, List, [], ◌∷◌, ◌++◌, drop}
use Rattle.words.specs.Lists.{tabulate}
use Rattle.contraction.specs.declared.contraction.Contraction.{Contraction}
use Rattle.meaning.specs.Meaning.{Slices}
use Rattle.pack.specs.Packed.{packed_word}
use Rattle.tiles.specs.declared.grid.Sizes.{Sizes}
use Rattle.tiles.specs.Cut.{Cut, width, batch_of, panel_of}
use Rattle.tile_blocks.specs.Side.{Side, left, right, size_on, tile_on, block_on}
use Rattle.tile_blocks.specs.ContractionInTiles.{cut_of, entry_on}

module _ (G : Cut) (entry : Side → ℕ → ℕ → ℕ → ℕ) where
  open G use {K, rows, cols, depth}

  -- word x of a side's block of tile n: count l of the block and depth count d of the panel stand at l + width × d, where width is rows or cols; past the
  -- edge 0. What stands there is the side's entry at the tile's batch count and these two.
  unfoldable pub packed_block : Side → ℕ → ℕ → ℕ
  packed_block s n =
      packed_word (tile_on G s) (width (size_on G s) (tile_on G s) (block_on G n s)) (width K depth (panel_of G n))
      (λ l d. entry s (batch_of G n) (block_on G n s * tile_on G s + l) (panel_of G n * depth + d))

  -- A's block first, B's right after it, the rest unchanged
  unfoldable pub packed : ℕ → List ℕ → List ℕ
  packed n work = tabulate (rows * depth) (packed_block left n) ++ (tabulate (cols * depth) (packed_block right n) ++ drop (rows * depth + cols * depth) work)

  -- after the tiles of a list: the blocks of the last one; with no tile run, all as it was
  unfoldable pub packed_last : List ℕ → List ℕ → List ℕ
  packed_last [] work = work
  packed_last (n ∷ []) work = packed n work
  packed_last (n ∷ m ∷ ns) work = packed_last (m ∷ ns) work

-- the work slice after the tiles of a list
unfoldable pub work_after : Contraction → Sizes → Slices → List ℕ → List ℕ → List ℕ
work_after c z w = packed_last (cut_of c z) (entry_on c w)
