-- What the phases of a tile may assume and what they leave. Inside contracts only.
-- Assumes nothing.
use denote.Ref.{Bor}
use Rattle.std.specs.Prelude.{ℕ, ◌+◌, ◌*◌, ◌<◌, ◌≡◌, Bool, false, cond, ◌&&◌, Option, unwrap_or, List, [], eqb, get_or}
use Rattle.std.specs.Option.{option_copied}
use Rattle.words.specs.Loops.{put}
use Rattle.contraction.specs.declared.contraction.Operand.{Operand}
use Rattle.contraction.specs.declared.contraction.Operand.TheVariants.{C, D}
use Rattle.plan.specs.declared.plan.Plan.{Plan}
use Rattle.tiles.specs.declared.grid.Tile.{Tile}
use Rattle.tiles.specs.Cut.{Cut}
use Rattle.tiles.specs.TileWalk.{tile_at}
use Rattle.tiles.specs.Setting.{visit}
use Rattle.tile_blocks.specs.Side.{Side, tile_on}
use Rattle.tile_blocks.specs.Planned.{place_of_output, read_in, plan_setting}
use Rattle.tile_blocks.specs.TilePlaces.{block_in}
use Rattle.tile_packs.specs.TilePacks.{side_width, panel_width, work_place}

-- the words of C that are lent, and none where C is not named
abbrev pub words_of_c : Option (Bor (List ℕ)) → List ℕ
words_of_c c = unwrap_or (option_copied c) []

module _ (p : Plan) (G : Cut) where
  -- all that a tile reads or writes of an output tensor's n words is inside
  pub record OutputClear (o : Operand) (n : ℕ) : Type 0 where
    pub inside : (h i j : ℕ) → h < G.H → i < G.M → j < G.N → place_of_output p o h i j < n

  -- D's words with C's words c put at the places of a tile
  abbrev pub from_c : Tile → List ℕ → List ℕ → List ℕ
  from_c x c = tile_at G (λ q h i j. put (λ old. get_or c (place_of_output p C h i j) 0) (place_of_output p D h i j)) x.batch x.column x.panel x.row

  -- and as a tile finds them: C's words are put there where C is named, before the first panel
  abbrev pub begun : Tile → Bool → List ℕ → List ℕ → List ℕ
  begun x named c d = cond (named && eqb x.panel 0) (from_c x c d) d

  -- the work slice has a tile's packed blocks of A's and B's words a and b
  pub record PackedIn (x : Tile) (a b work : List ℕ) : Type 0 where
    pub each : (s : Side) (l d : ℕ) → l < side_width G x s → d < panel_width G x
        → get_or work (work_place G s l d) 0 ≡ read_in p a b s x.batch (block_in x s * tile_on G s + l) (x.panel * G.depth + d)

  -- whichever words of A and B were packed, D's words are those that their tile leaves, each sum starting from the old word
  pub record Multiplied (x : Tile) (alpha beta : ℕ) (work before after : List ℕ) : Type 0 where
    pub tile : (a b : List ℕ) → PackedIn x a b work
        → after ≡ tile_at G (visit (plan_setting p G false alpha beta a b [])) x.batch x.column x.panel x.row before
