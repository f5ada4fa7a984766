-- What a loop over tiles keeps: the tiles so far were walked, and what is packed is the last tile's; in the end the blocks of the last tile with zeros past their edges.
-- Assumes nothing.
use mathlib.Core.Path.{◌≡◌, refl, ap, sym, ◌∙◌}
use mathlib.Core.Bool.{Bool, true, false, true≢false}
use mathlib.Core.List.{List, [], ◌∷◌, ◌++◌}
use Prim.Native.Nat.{ℕ, suc, ◌+◌, ◌-◌, ◌<◌, ◌≤◌}
use native.Mathlib.Omega.{arith}
use lib.Dec.{eqb}
use lib.ListN.{length, get_or}
use borrow.Author.Tests.{eq-eqb}
use Rattle.plan.specs.declared.plan.Plan.{Plan}
use Rattle.tiles.specs.declared.grid.Tile.{Tile}
use Rattle.tiles.specs.Cut.{Cut}
use Rattle.tiles.specs.Grid.{TileOf}
use Rattle.tiles.specs.TileWalk.{walk_tiles}
use Rattle.tiles.specs.Setting.{Setting, visit, tile_step, walk, tiles_from}
use Rattle.tiles.proofs.Visits.{tiles_next, walk_next}
use Rattle.tiles.proofs.Closed.{length_walk}
use Rattle.tile_blocks.specs.Planned.{read_in, plan_setting}
use Rattle.tile_blocks.specs.Side.{Side}
use Rattle.tile_packs.specs.TilePacks.{packs, padded}
use Rattle.tiling.specs.Work.{packed_last}
use Rattle.one_tile.specs.HeldPacks.{Holds, AfterTile}
use Rattle.tiling.proofs.PackedWork.{packed_end, padded_packed}

-- the tiles from `done` up to t were run, of those up to `end`; was the last of them packed?
module _ (p : Plan) (G : Cut) (named : Bool) (alpha beta : ℕ) (a b c : List ℕ) (done end : ℕ) (d₀ work₀ : List ℕ) where
  abbrev pub S : Setting
  S = plan_setting p G named alpha beta a b c

  pub record Run (t : ℕ) (packed : Bool) (d work : List ℕ) : Type 0 where
    pub from : done ≤ t
    pub words : d ≡ walk S (tiles_from done (t - done)) d₀
    pub size : length work ≡ length work₀
    pub untouched : t ≡ done → work ≡ work₀
    pub rest : (i : ℕ) → packs G ≤ i → get_or work i 0 ≡ get_or work₀ i 0
    pub blocks : packed ≡ true → (s : Side) → Holds p G a b s (t - 1) work
    pub last : done < t → t ≡ end → packed ≡ true

  pub same_d : {t : ℕ} {packed : Bool} {d work : List ℕ} → Run t packed d work → length d ≡ length d₀
  same_d {t} r = ap length r.words ∙ length_walk S (tiles_from done (t - done)) d₀

  pub none : Run done false d₀ work₀
  unfolding tiles_from walk_tiles
  none =
      let e : done - done ≡ 0 = omega arith in
      record {
        from = omega arith;
        words = rw e;
        size = refl;
        untouched = λ k. refl;
        rest = λ i k. refl;
        blocks = λ k. absurd (true≢false (sym k));
        last = λ k l. absurd (omega (arith, k));
      }

  -- the list of tiles, one more
  more : (t : ℕ) → done ≤ t → tiles_from done (t + 1 - done) ≡ tiles_from done (t - done) ++ t ∷ []
  more t h =
      let k : t + 1 - done ≡ suc (t - done) = omega arith in
      ap (tiles_from done) k ∙ tiles_next done (t - done) ∙ ap (λ (m : ℕ). tiles_from done (t - done) ++ m ∷ []) (omega arith)

  -- what is behind the blocks is as it was before the tile
  rest_on : {t : ℕ} {last : Bool} (packed : Bool) {old new : List ℕ} → AfterTile p G a b t last packed old new → (i : ℕ) → packs G ≤ i → get_or new i 0 ≡ get_or old i 0
  rest_on true h i k = (h.held refl).rest i k
  rest_on false h i k = ap (λ (ws : List ℕ). get_or ws i 0) (h.same refl)

  pub next : {t : ℕ} {held packed : Bool} {d work d' work' : List ℕ} → Run t held d work → d' ≡ tile_step S t d → length work' ≡ length work
      → AfterTile p G a b t (eqb (t + 1) end) packed work work' → Run (t + 1) packed d' work'
  next {t} {packed = packed} r e k h =
      let back : t + 1 - 1 ≡ t = omega arith in
      record {
        from = omega (arith, r.from);
        words = e ∙ ap (tile_step S t) r.words ∙ sym (walk_next S.cut (visit S) (tiles_from done (t - done)) t d₀) ∙ ap (λ (ns : List ℕ). walk S ns d₀) (sym (more t r.from));
        size = k ∙ r.size;
        untouched = λ z. absurd (omega (arith, z, r.from));
        rest = λ i l. rest_on packed h i l ∙ r.rest i l;
        blocks = λ z s. rw back ((h.held z).blocks s);
        last = λ l z. h.end (eq-eqb (t + 1) end z);
      }

  -- zeros past the edges of the last tile's blocks
  pub ended : {t count : ℕ} {packed : Bool} {d work after : List ℕ} {x : Tile} → Run t packed d work → t ≡ done + count → t ≡ end → 0 < count → TileOf G (t - 1) x → after ≡ padded G x work
      → after ≡ packed_last G (read_in p a b) (tiles_from done count) work₀
  ended {t} {count} r e z l k q =
      let all : tiles_from done count ≡ tiles_from done (t - 1 - done) ++ (t - 1) ∷ [] = ap (tiles_from done) (omega (arith, e, l)) ∙ more (t - 1) (omega (arith, e, l)) in
      q ∙ padded_packed p k a b (record { blocks = r.blocks (r.last (omega (arith, e, l)) z); rest = r.rest }) r.size
      ∙ sym (packed_end G (read_in p a b) (tiles_from done (t - 1 - done)) (t - 1) work₀) ∙ ap (λ (ns : List ℕ). packed_last G (read_in p a b) ns work₀) (sym all)

  -- where no tile was run
  pub never : {t count : ℕ} {packed : Bool} {d work : List ℕ} → Run t packed d work → t ≡ done + count → count ≡ 0 → work ≡ packed_last G (read_in p a b) (tiles_from done count) work₀
  unfolding packed_last tiles_from
  never r e z = rw z (r.untouched (omega (arith, e, z)))
