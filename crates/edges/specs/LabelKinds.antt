-- A contraction with a label of every kind, all extents 2: A `pikh`, B `qkhj`, D `jxhi`, so that `p` is in A only, `q` in B only, `x` in D only, `k`
-- in A and B, `i` in A and D, `j` in B and D, `h` in all three.
-- In tiles of 3 rows, 1 column and depth 3 it has 2 row blocks, 2 column blocks and 3 panels.
-- Assumes nothing.
use Rattle.std.specs.Prelude.{ℕ, suc, ◌≡◌, List, [], ◌∷◌, map, pos}
use Rattle.words.specs.Texts.{codes}
use Rattle.words.specs.Lists.{tabulate}
use Rattle.layout.specs.declared.layout.Layout.{Layout}
use Rattle.layout.specs.Layout.{layout_of}
use Rattle.contraction.specs.declared.contraction.Contraction.{Contraction}
use Rattle.contraction.specs.Operands.{three, contraction_of}
use Rattle.groups.specs.Groups.{batch, row, column, depth}
use Rattle.groups.specs.GroupCases.{group_letters}
use Rattle.meaning.specs.Meaning.{Slices, first_no, shape_in, result}
use Rattle.tiles.specs.declared.grid.Sizes.{Sizes}
use Rattle.tiles.specs.Cut.{total, tile_number}
use Rattle.tiles.specs.Progress.{old, part, final}
use Rattle.tile_blocks.specs.ContractionInTiles.{cut_of, address_at}
use Rattle.answers.specs.StateAnswer.{StateAnswer, is}
use Rattle.tiled.specs.TileCall.{state_call}

-- four letters of extent 2 in 16 words
abbrev four_letters : List ℕ → Layout
four_letters cs = layout_of cs (2 ∷ 2 ∷ 2 ∷ 2 ∷ []) (pos 1 ∷ pos 2 ∷ pos 4 ∷ pos 8 ∷ []) 0

abbrev kinds : Contraction
kinds = contraction_of (four_letters (codes "pikh")) (four_letters (codes "qkhj")) (four_letters (codes "jxhi")) 1 0

abbrev sizes : Sizes
sizes = record { rows = 3; cols = 1; depth = 3 }

-- A and B hold 1, 2, .., 16
abbrev slices : Slices
slices = three (tabulate 16 suc) (tabulate 16 suc) (tabulate 16 (λ k. 0))

-- the state after t tiles of the output index of batch count 1, row count 3 and column count 1
abbrev states : List ℕ → List StateAnswer
states ts = map (λ t. state_call kinds sizes slices t 1 3 1) ts

pub record LabelKindCases : Type 0 where
  pub accepted : first_no kinds slices ≡ 0
  -- the groups of these letters are those of `GroupCases`
  pub groups : map (group_letters (shape_in kinds)) (batch ∷ row ∷ column ∷ depth ∷ []) ≡ codes "h" ∷ codes "xi" ∷ codes "j" ∷ codes "pkq" ∷ []
  -- "alpha × (sum, over every label that D lacks, of A's entry × B's entry) + beta × old word. A tensor that lacks a label has the same entry at
  -- each of its values."
  pub words : result kinds slices ≡ 86 ∷ 310 ∷ 86 ∷ 310 ∷ 614 ∷ 1350 ∷ 614 ∷ 1350 ∷ 126 ∷ 478 ∷ 126 ∷ 478 ∷ 718 ∷ 1582 ∷ 718 ∷ 1582 ∷ []
  -- "In a group the first label runs fastest": row count 1 is `x` 1 and `i` 0
  pub address : address_at kinds 1 1 0 ≡ 6
  -- "number ((h × NB + c) × KB + p) × MB + r", "The total is batch size × NB × KB × MB"
  pub last_tile : tile_number (cut_of kinds sizes) 1 1 2 1 ≡ 23
  pub all_tiles : total (cut_of kinds sizes) ≡ 24
  -- "old (no panel done), part, or final (all done)": its panels are tiles 19, 21 and 23
  pub state_by_state : states (19 ∷ 20 ∷ 23 ∷ 24 ∷ []) ≡ is old ∷ is part ∷ is part ∷ is final ∷ []
