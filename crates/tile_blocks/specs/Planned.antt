-- What the tile code computes, by the address words of a plan. Inside contracts only.
-- Assumes nothing.
use Rattle.std.specs.Prelude.{◌≡◌, ℕ, ◌+◌, ◌<◌, ◌≤◌, Bool, true, List, slice_index}
use Rattle.words.specs.Words.{word, word_of}
use Rattle.limits.specs.Limits.{labels_limit}
use Rattle.contraction.specs.declared.contraction.Operand.{Operand}
use Rattle.contraction.specs.declared.contraction.Operand.TheVariants.{C, D}
use Rattle.groups.specs.Groups.{Group, batch, row, column, depth}
use Rattle.groups.specs.Held.{labels_in}
use Rattle.groups.specs.Foldable.{Foldable}
use Rattle.offsets.specs.Counts.{offset_in}
use Rattle.offsets.specs.Offsets.{words_in}
use Rattle.meaning.specs.Meaning.{start_of}
use Rattle.plan.specs.declared.plan.Plan.{Plan}
use Rattle.plan.specs.Plan.{planned}
use Rattle.tiles.specs.declared.grid.Sizes.{Sizes}
use Rattle.tiles.specs.declared.grid.Grid.{Grid}
use Rattle.tiles.specs.Grid.{cut_in, Fits, Counted}
use Rattle.tiles.specs.Cut.{Cut}
use Rattle.tiles.specs.TileWalk.{OwnPlaces}
use Rattle.tiles.specs.Setting.{Setting, setting_by}
use Rattle.tile_blocks.specs.Side.{Side, left, right, both, tensor_on, group_on, size_on}
use Rattle.tile_blocks.specs.ContractionInTiles.{cut_groups}

module _ (p : Plan) where
  -- how far a count of a group moves in a tensor, as an address word
  abbrev pub moved : Group → Operand → ℕ → ℕ
  moved g o n = word 64 (offset_in (word_of 64) o (labels_in (planned p g)) n)

  -- where a tensor stands at a batch count, and at a batch and a depth count
  abbrev pub at_batch : ℕ → Operand → ℕ
  at_batch h o = word 64 (words_in p.base o + moved batch o h)

  abbrev pub at_depth : ℕ → ℕ → Operand → ℕ
  at_depth h k o = word 64 (at_batch h o + offset_in (word_of 64) o (labels_in (planned p depth)) k)

  -- the place of a side's entry at a batch count, a count of its group and a depth count, and that of an output in D or in C
  unfoldable pub place_in : Side → ℕ → ℕ → ℕ → ℕ
  place_in s h m k = word 64 (at_depth h k (tensor_on s) + moved (group_on s) (tensor_on s) m)

  unfoldable pub place_of_output : Operand → ℕ → ℕ → ℕ → ℕ
  place_of_output o h i j = word 64 (word 64 (at_batch h o + moved column o j) + moved row o i)

  -- the plan's groups, cut by a tile's sizes
  abbrev pub plan_cut : Sizes → Cut
  plan_cut = cut_groups (λ g. labels_in (planned p g))

  -- the words that tiles read of A and of B
  abbrev pub read_in : List ℕ → List ℕ → Side → ℕ → ℕ → ℕ → ℕ
  read_in a b s h m k = slice_index (both a b s) (place_in s h m k)

  -- what a sum starts from: C's word where C is named, else the old word
  abbrev pub start_in : Bool → List ℕ → ℕ → ℕ → ℕ → ℕ → ℕ
  start_in named c h i j old = start_of named (slice_index c (place_of_output C h i j)) old

  unfoldable pub plan_setting : Cut → Bool → ℕ → ℕ → List ℕ → List ℕ → List ℕ → Setting
  plan_setting G named alpha beta a b c = setting_by G (place_of_output D) (read_in a b left) (read_in a b right) (start_in named c) alpha beta

  -- all that tiles read and write is inside, and the words that they write are at different places
  pub record Clear (G : Cut) (named : Bool) (a b c d : ℕ) : Type 0 where
    pub in_side : (s : Side) (h m k : ℕ) → h < G.H → m < size_on G s → k < G.K → place_in s h m k < both a b s
    pub in_c : named ≡ true → (h i j : ℕ) → h < G.H → i < G.M → j < G.N → place_of_output C h i j < c
    pub places : OwnPlaces G (place_of_output D) d

  -- the grid is that of the plan's groups, and their lists are in the limit
  pub record GridOf (g : Grid) : Type 0 where
    pub counted : Counted g
    pub same : cut_in g ≡ plan_cut g.sizes
    pub few : (x : Group) → (planned p x).count ≤ labels_limit

  -- what the grid's numbers may assume: questions 1 to 10 passed
  pub record PlanFits (z : Sizes) : Type 0 where
    pub fits : Fits (plan_cut z)
    pub foldable : (x : Group) → Foldable (labels_in (planned p x))
    pub few : (x : Group) → (planned p x).count ≤ labels_limit
