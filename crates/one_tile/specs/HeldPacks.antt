-- What the work slice holds between the tiles of a call. Inside contracts only.
-- Assumes nothing.
use Rattle.std.specs.Prelude.{ℕ, ◌+◌, ◌*◌, ◌<◌, ◌≤◌, ◌≡◌, Bool, true, false, List, get_or}
use Rattle.plan.specs.declared.plan.Plan.{Plan}
use Rattle.tiles.specs.Cut.{Cut, width, batch_of, panel_of}
use Rattle.tile_blocks.specs.Side.{Side, size_on, tile_on, block_on}
use Rattle.tile_blocks.specs.Planned.{read_in}
use Rattle.tile_packs.specs.TilePacks.{packs, work_place}

module _ (p : Plan) (G : Cut) (a b : List ℕ) where
  -- what is in use of tile n's block of a side; nothing is said of the places past its edge
  pub record Holds (s : Side) (n : ℕ) (work : List ℕ) : Type 0 where
    pub each : (l d : ℕ) → l < width (size_on G s) (tile_on G s) (block_on G n s) → d < width G.K G.depth (panel_of G n)
        → get_or work (work_place G s l d) 0 ≡ read_in p a b s (batch_of G n) (block_on G n s * tile_on G s + l) (panel_of G n * G.depth + d)

  -- after tile n both blocks, and behind them the words are as they were
  pub record HeldAfter (n : ℕ) (old new : List ℕ) : Type 0 where
    pub blocks : (s : Side) → Holds s n new
    pub rest : (i : ℕ) → packs G ≤ i → get_or new i 0 ≡ get_or old i 0

  -- tile n was packed, as the last one of a call is; or it was not, and all words are as they were
  pub record AfterTile (n : ℕ) (last packed : Bool) (old new : List ℕ) : Type 0 where
    pub held : packed ≡ true → HeldAfter n old new
    pub same : packed ≡ false → new ≡ old
    pub end : last ≡ true → packed ≡ true
