-- The work slice after a tile at the edge, of 2 rows and 3 columns: A `ik` and B `kj`, extents 3, 3 and 2, tiles of 2 rows, 3 columns and depth 2.
-- The last of the 4 tiles has row count 2, both columns and depth count 2.
-- Assumes nothing.
use Rattle.std.specs.Prelude.{ℕ, ◌≡◌, List, [], ◌∷◌, pos}
use Rattle.words.specs.Texts.{codes}
use Rattle.layout.specs.Layout.{layout_of}
use Rattle.contraction.specs.declared.contraction.Contraction.{Contraction}
use Rattle.contraction.specs.Operands.{three, contraction_of}
use Rattle.meaning.specs.Meaning.{Slices}
use Rattle.tiles.specs.declared.grid.Sizes.{Sizes}
use Rattle.tiling.specs.Work.{work_after}

-- the product over an extent of k
abbrev over : ℕ → Contraction
over k =
    contraction_of
    (layout_of (codes "ik") (3 ∷ k ∷ []) (pos 1 ∷ pos 3 ∷ []) 0)
    (layout_of (codes "kj") (k ∷ 2 ∷ []) (pos 1 ∷ pos 3 ∷ []) 0)
    (layout_of (codes "ij") (3 ∷ 2 ∷ []) (pos 1 ∷ pos 3 ∷ []) 0)
    5 1

abbrev product : Contraction
product = over 3

abbrev sizes : Sizes
sizes = record { rows = 2; cols = 3; depth = 2 }

abbrev slices : Slices
slices =
    three (1 ∷ 2 ∷ 3 ∷ 4 ∷ 5 ∷ 6 ∷ 7 ∷ 8 ∷ 9 ∷ [])
    (11 ∷ 12 ∷ 13 ∷ 14 ∷ 15 ∷ 16 ∷ [])
    (0 ∷ 0 ∷ 0 ∷ 0 ∷ 0 ∷ 0 ∷ [])

-- 11 words, of which the blocks take 10
abbrev before : List ℕ
before = 99 ∷ 99 ∷ 99 ∷ 99 ∷ 99 ∷ 99 ∷ 99 ∷ 99 ∷ 99 ∷ 99 ∷ 99 ∷ []

pub record WorkCases : Type 0 where
  -- "the last tile's A block first, row r and depth d at r + rows × d, unscaled. The packed B block starts right after it, at rows × depth, column c
  -- and depth d at c + cols × d. Places past the edge hold 0. The rest is unchanged, and with no tile run, all of it."
  pub edge : work_after product sizes slices (0 ∷ 1 ∷ 2 ∷ 3 ∷ []) before ≡ 9 ∷ 0 ∷ 0 ∷ 0 ∷ 13 ∷ 16 ∷ 0 ∷ 0 ∷ 0 ∷ 0 ∷ 99 ∷ []
  pub none_run : work_after product sizes slices [] before ≡ before
  -- the last tile is the last of the list, whatever its number: here tile 0, of row counts 0 and 1, both columns and depth counts 0 and 1
  pub last_listed : work_after product sizes slices (1 ∷ 3 ∷ 2 ∷ 0 ∷ []) before ≡ 1 ∷ 2 ∷ 4 ∷ 5 ∷ 11 ∷ 14 ∷ 0 ∷ 12 ∷ 15 ∷ 0 ∷ 99 ∷ []
  -- "Depth size 0 counts as one panel with no terms": both blocks are all past the edge
  pub empty_depth : work_after (over 0) sizes slices (0 ∷ []) before ≡ 0 ∷ 0 ∷ 0 ∷ 0 ∷ 0 ∷ 0 ∷ 0 ∷ 0 ∷ 0 ∷ 0 ∷ 99 ∷ []
