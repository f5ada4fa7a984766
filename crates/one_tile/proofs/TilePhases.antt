-- The phases of the tile of a number: where the work slice holds its blocks, there is what the product asks of them. To put C's words in D first comes to sums that
-- start from them.
-- Assumes nothing.
use mathlib.Core.Path.{◌≡◌, refl, sym, ap, ◌∙◌}
use mathlib.Core.Bool.{Bool, true, false, cond}
use mathlib.Core.List.{List, []}
use Prim.Native.Nat.{ℕ, ◌<◌}
use lib.Dec.{eqb}
use lib.ListN.{length, get_or}
use Rattle.words.specs.Loops.{put}
use Rattle.contraction.specs.declared.contraction.Operand.TheVariants.{C, D}
use Rattle.plan.specs.declared.plan.Plan.{Plan}
use Rattle.tiles.specs.declared.grid.Tile.{Tile}
use Rattle.tiles.specs.Cut.{Cut, total, panel_of}
use Rattle.tiles.specs.Grid.{TileOf}
use Rattle.tiles.specs.TileWalk.{visit_tile, OwnPlaces}
use Rattle.tiles.specs.Setting.{panel_sum, add_panel, tile_step}
use Rattle.tiles.proofs.Visits.{visit_same}
use Rattle.tiles.proofs.Closed.{twice}
use Rattle.tile_blocks.specs.Side.{Side, left, right}
use Rattle.tile_blocks.specs.Planned.{place_of_output, plan_setting}
use Rattle.phases.specs.Phases.{PackedIn, from_c, begun, Multiplied}
use Rattle.thin_tile.specs.ThinTile.{tile_added}
use Rattle.one_tile.specs.HeldPacks.{Holds}

module _ (p : Plan) {G : Cut} {n : ℕ} {x : Tile} (t : TileOf G n x) (a b : List ℕ) where
  -- what the work slice holds is what the product asks of it
  packed_in : {w : List ℕ} → ((s : Side) → Holds p G a b s n w) → PackedIn p G x a b w
  packed_in h =
      record {
        each =
            elim [
              | left ↦ (λ l d. rw (t.batch, t.row, t.panel) ((h left).each l d))
              | right ↦ (λ l d. rw (t.batch, t.column, t.panel) ((h right).each l d))
            ];
      }

  -- what the tile leaves of D's words is what the tile of the number leaves
  pub tile_numbered : (alpha beta : ℕ) (before : List ℕ) {after : List ℕ} → after ≡ tile_added p G x alpha beta a b before → after ≡ tile_step (plan_setting p G false alpha beta a b []) n before
  unfolding visit_tile plan_setting
  tile_numbered alpha beta before q = q ∙ rw (t.batch, t.column, t.panel, t.row)

  pub tile_stepped : {alpha beta : ℕ} {w before after : List ℕ} → ((s : Side) → Holds p G a b s n w) → Multiplied p G x alpha beta w before after
      → after ≡ tile_step (plan_setting p G false alpha beta a b []) n before
  tile_stepped {alpha} {beta} {before = before} h m = tile_numbered alpha beta before (m.tile a b (packed_in h))

-- where C is named, its words are put at the tile's places before the first panel, so that each sum starts from its word; a later panel only adds
module _ (p : Plan) {G : Cut} {n : ℕ} {x : Tile} (t : TileOf G n x) (below : n < total G) (alpha beta : ℕ) (a b c d : List ℕ) (own : OwnPlaces G (place_of_output p D) (length d)) where
  -- what a panel makes of a word, the sum starting from the word itself or from C's
  abbrev adds : Bool → ℕ → ℕ → ℕ → ℕ → ℕ → ℕ
  adds named = add_panel (plan_setting p G named alpha beta a b c)

  later_adds : (q h i j w : ℕ) → eqb q 0 ≡ false → adds false q h i j w ≡ adds true q h i j w
  unfolding add_panel panel_sum plan_setting
  later_adds q h i j w e = rw e

  first_adds : (q h i j w : ℕ) → eqb q 0 ≡ true → adds false q h i j (get_or c (place_of_output p C h i j) 0) ≡ adds true q h i j w
  unfolding add_panel panel_sum plan_setting
  first_adds q h i j w e = rw e

  stepped : Bool → List ℕ → List ℕ
  stepped named = visit_tile G (λ q h i j. put (adds named q h i j) (place_of_output p D h i j)) n

  later_step : eqb (panel_of G n) 0 ≡ false → stepped false d ≡ stepped true d
  unfolding stepped put
  later_step e = visit_same G _ _ n d (λ h i j k ys. rw (later_adds (panel_of G n) h i j (get_or ys (place_of_output p D h i j) 0) e)) below

  first_step : eqb (panel_of G n) 0 ≡ true → stepped false (from_c p G x c d) ≡ stepped true d
  unfolding stepped put visit_tile
  first_step e =
      ap (stepped false) (rw (t.batch, t.column, t.panel, t.row))
      ∙ twice G (place_of_output p D) (λ q h i j w. get_or c (place_of_output p C h i j) 0) (adds false) d own n below
      ∙ visit_same G _ _ n d (λ h i j k ys. rw (first_adds (panel_of G n) h i j (get_or ys (place_of_output p D h i j) 0) e)) below

  pub tile_started : (named : Bool) → tile_step (plan_setting p G false alpha beta a b []) n (begun p G x named c d) ≡ tile_step (plan_setting p G named alpha beta a b c) n d
  unfolding stepped plan_setting
  tile_started false = refl
  tile_started true = go (eqb x.panel 0) (ap (λ (q : ℕ). eqb q 0) (sym t.panel))
    where
      go : (z : Bool) → eqb (panel_of G n) 0 ≡ z → stepped false (cond z (from_c p G x c d) d) ≡ stepped true d
      go true e = first_step e
      go false e = later_step e
