-- Layers with nothing in them, in tiles. With depth size 0 there is one panel, and no term in it. With total 0 the count stays 0 whatever the calls are,
-- and there is no output index, since each lies in a tile; so the closed form at 0 and the answers at 0 are what is left.
-- Assumes nothing.
use mathlib.Core.Path.{◌≡◌, refl, ap, ap₂, ◌∙◌}
use mathlib.Core.Bool.{Bool, true, false, cond, ◌&&◌}
use mathlib.Core.List.{List, [], ◌∷◌, map}
use Prim.Native.Nat.{ℕ, zero, suc, ◌+◌, ◌-◌, ◌*◌, ◌<◌, min, zero-le}
use native.Mathlib.Nat.{mul-zero, add-zero, zero-lt-suc}
use native.Mathlib.Omega.{arith}
use lib.Dec.{eqb, ltb, ltb→lt}
use lib.ListN.{length, get_or}
use Rattle.words.specs.Words.{word}
use Rattle.words.proofs.Sums.{and_split}
use Rattle.layout.specs.Layout.{axes}
use Rattle.entries.specs.EntryQuestions.{has_entries}
use Rattle.entries.proofs.Bounds.{in_range_some}
use Rattle.contraction.specs.declared.contraction.Contraction.{Contraction}
use Rattle.contraction.specs.Operands.{four, tensors}
use Rattle.contraction.specs.declared.contraction.Operand.TheVariants.{D}
use Rattle.pack.proofs.Packing.{packed_unfilled}
use Rattle.tiles.specs.declared.grid.Sizes.{Sizes}
use Rattle.tiles.specs.Cut.{width, InSizes, KB, total, panel_of}
use Rattle.tiles.specs.Progress.{old, final, done, state_at}
use Rattle.tiles.specs.Setting.{closed, word_at, tiles_from}
use Rattle.tiles.specs.TileWalk.{walk_tiles}
use Rattle.tiles.proofs.Cuts.{blocks_le}
use Rattle.tiles.proofs.Sizes.{index_has_tile, tile_has_index}
use Rattle.tiles.proofs.PanelWords.{none_summed}
use Rattle.tiles.proofs.Closed.{closed_zero}
use Rattle.tile_blocks.specs.Side.{Side, left, right, tile_on}
use Rattle.tile_blocks.specs.ContractionInTiles.{cut_of, output_index, address_at, start_at, entry_on, setting}
use Rattle.tile_questions.specs.TileQuestions.{work_fits, is_index, Accepted}
use Rattle.tile_questions.proofs.TileSizes.{sizes_limited}
use Rattle.tiling.specs.Work.{packed_block, packed_last, work_after}
use Rattle.accept.proofs.Soundness.{at_in_range, sound}
use Rattle.answers.specs.TileAnswer.{ran, tile_refused, tile_call_of}
use Rattle.answers.specs.StateAnswer.{is, state_refused}
use Rattle.tiled.specs.TileCall.{ran_call, tile_call}
use Rattle.tiled.specs.Demand3.{Call, tiles, state, tiled, found, run, next, answer, count, answers}
use Rattle.tiled.specs.EmptyTiles.{at_once, EmptyTiles, EmptyTilesHold}
use Rattle.tiled.proofs.TileAnswered.{tile_answers}
use Rattle.tiled.proofs.Demand3.{count_le, words_closed, demand3}
use Rattle.tiled.proofs.Following.{old_first, final_last, passes}

module _ (c : Contraction) (z : Sizes) (a b cw d : List ℕ) (ok : Accepted c z (four a b cw d)) where
  rows_pos : 0 < z.rows
  rows_pos = (sizes_limited z (passes c z a b cw d ok).1).rows.0

  cols_pos : 0 < z.cols
  cols_pos = (sizes_limited z (passes c z a b cw d ok).1).cols.0

  depth_pos : 0 < z.depth
  depth_pos = (sizes_limited z (passes c z a b cw d ok).1).depth.0

  -- ---- depth size 0
  module _ (e : (cut_of c z).K ≡ 0) where
    one_panel : KB (cut_of c z) ≡ 1
    unfolding KB
    one_panel = omega (arith, e, blocks_le {n = (cut_of c z).K} depth_pos)

    zeros : (s : Side) (n x : ℕ) → packed_block (cut_of c z) (entry_on c (four a b cw d)) s n x ≡ 0
    unfolding packed_block width
    zeros s n x = packed_unfilled (tile_on (cut_of c z) s) _ _ _ x (wide s) (rw (none, mul-zero) zero-le)
      where
        none : width (cut_of c z).K z.depth (panel_of (cut_of c z) n) ≡ 0
        none = omega (arith, e)

        wide : (s : Side) → 0 < tile_on (cut_of c z) s
        wide left = rows_pos
        wide right = cols_pos

    beta_start : (calls : List Call) (h i j : ℕ) → InSizes (cut_of c z) h i j
        → get_or (run c z a b cw calls 0 d).words (address_at c h i j) 0
        ≡ cond (done (cut_of c z) (count c z calls 0) h i j 0) (word 32 (c.beta * start_at c (four a b cw d) h i j (get_or d (address_at c h i j) 0))) (get_or d (address_at c h i j) 0)
    unfolding setting word_at
    beta_start calls h i j ix =
        let S = setting c z (four a b cw d) in
        (demand3 c z a b cw d ok calls).addressed h i j ix
        ∙ rw (none_summed S h i j e (count c z calls 0), mul-zero, add-zero)

    old_or_final : (calls : List Call) (h i j : ℕ)
        → state_at (cut_of c z) (count c z calls 0) h i j ≡ cond (done (cut_of c z) (count c z calls 0) h i j 0) final old
    old_or_final calls h i j = go (done (cut_of c z) (count c z calls 0) h i j 0) refl
      where
        go : (x : Bool) → done (cut_of c z) (count c z calls 0) h i j 0 ≡ x → state_at (cut_of c z) (count c z calls 0) h i j ≡ cond x final old
        go true q = (final_last (cut_of c z) (count c z calls 0) h i j).1 (rw one_panel q)
        go false q = (old_first (cut_of c z) (count c z calls 0) h i j).1 q

  -- ---- no tile
  no_tiles : has_entries (axes (tensors c D)) ≡ false → total (cut_of c z) ≡ 0
  no_tiles e = go (total (cut_of c z)) refl
    where
      go : (n : ℕ) → total (cut_of c z) ≡ n → n ≡ 0
      go zero q = refl
      go (suc n) q =
          let first = tile_has_index (cut_of c z) rows_pos cols_pos (rw q (zero-lt-suc n)) in
          absurd (rw e at (in_range_some (axes (tensors c D)) (output_index c 0 0 0) (at_in_range c z (four a b cw d) (passes c z a b cw d ok).0 (passes c z a b cw d ok).1 0 0 0 first)))

  module _ (e : total (cut_of c z) ≡ 0) where
    stays : (calls : List Call) → count c z calls 0 ≡ 0
    stays calls = omega (arith, e, (count_le c z calls zero-le).1)

    no_index : (h i j : ℕ) → is_index (cut_of c z) h i j ≡ false
    no_index h i j = go (is_index (cut_of c z) h i j) refl
      where
        go : (x : Bool) → is_index (cut_of c z) h i j ≡ x → x ≡ false
        go false q = refl
        go true q =
            let k = and_split (ltb h (cut_of c z).H) (ltb i (cut_of c z).M && ltb j (cut_of c z).N) (rw q tt) in
            let l = and_split (ltb i (cut_of c z).M) (ltb j (cut_of c z).N) k.1 in
            absurd (omega (arith, e, index_has_tile (cut_of c z) rows_pos cols_pos (ltb→lt _ _ k.0, ltb→lt _ _ l.0, ltb→lt _ _ l.1)))

    words_stay : (calls : List Call) → (run c z a b cw calls 0 d).words ≡ d
    unfolding setting
    words_stay calls =
        words_closed c z a b cw d ok.passed calls
        ∙ ap (λ (n : ℕ). closed (setting c z (four a b cw d)) n d) (stays calls)
        ∙ closed_zero (setting c z (four a b cw d)) d (sound c z (four a b cw d) (passes c z a b cw d ok).0 (passes c z a b cw d ok).1)

    one_said : (x : Call) → (answer c z x 0 ≡ at_once z x) × (next c z x 0 ≡ 0)
    unfolding answer next
    one_said (tiles budget work) = go (work_fits z (length work))
      where
        ran_none : min budget (total (cut_of c z) - 0) ≡ 0
        ran_none = omega (arith, e)

        go : (x : Bool) → let n = cond x (0 + min budget (total (cut_of c z) - 0)) 0 in
            (tiled (cond x (ran n (eqb n (total (cut_of c z)))) (tile_refused 11 0)) ≡ tiled (cond x (ran 0 true) (tile_refused 11 0))) × (n ≡ 0)
        go true = (rw (ran_none, e), omega (arith, ran_none))
        go false = (refl, refl)
    one_said (state h i j) = (ap (λ (x : Bool). found (cond x (is (state_at (cut_of c z) 0 h i j)) (state_refused 13))) (no_index h i j), refl)

    all_said : (calls : List Call) → answers c z calls 0 ≡ map (at_once z) calls
    unfolding answers
    all_said [] = refl
    all_said (x ∷ calls) = ap₂ ◌∷◌ (one_said x).0 (ap (answers c z calls) (one_said x).1 ∙ all_said calls)

    work_stays : (work : List ℕ) (budget : ℕ) → work_fits z (length work) ≡ true → tile_call c z (four a b cw d) work 0 budget ≡ tile_call_of (ran 0 true) d work
    unfolding ran_call walk_tiles tiles_from work_after packed_last
    work_stays work budget fits = tile_answers c z (four a b cw d) work 0 budget ok.passed zero-le ∙ rw (fits, none_run, e)
      where
        none_run : min budget (total (cut_of c z) - 0) ≡ 0
        none_run = omega (arith, e)

  empties : EmptyTiles c z a b cw d
  empties =
      record {
        one_panel = one_panel;
        zeros = zeros;
        beta_start = beta_start;
        old_or_final = λ e calls h i j ix. old_or_final e calls h i j;
        no_tiles = no_tiles;
        said = λ e calls. (demand3 c z a b cw d ok calls).said ∙ all_said e calls;
        words_stay = words_stay;
        work_stays = work_stays;
      }

pub empty_tiles : EmptyTilesHold
empty_tiles = empties
