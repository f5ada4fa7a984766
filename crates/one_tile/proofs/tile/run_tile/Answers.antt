-- `run_tile` meets its contract. The tile stands inside its groups, so every place that the phases read or write is inside; the sums start from C's words where C is
-- named, and the product goes to the tile's places. After the packs the work slice holds the tile's blocks, B's where it was left too; a tile that was not packed
-- leaves it as it was.
-- Assumes nothing.
use mathlib.Core.Path.{◌≡◌, refl, sym, ap, ◌∙◌, subst}
use mathlib.Core.Bool.{Bool, true, false, not, ◌&&◌, true≢false}
use Prim.Native.Nat.{ℕ, ◌-◌, ◌*◌, ◌≤◌}
use native.Mathlib.Omega.{arith}
use Rattle.std.specs.Prelude.{is_some}
use Rattle.contraction.specs.declared.contraction.Operand.TheVariants.{D}
use Rattle.plan.specs.declared.plan.Plan.{Plan}
use Rattle.tiles.specs.Cut.{Cut}
use Rattle.tiles.specs.Grid.{cut_in}
use Rattle.tiles.specs.Setting.{tile_step}
use Rattle.tile_blocks.specs.Planned.{Clear}
use Rattle.tile_blocks.specs.Side.{left, right}
use Rattle.tile_blocks.proofs.TileParts.{tile_begins}
use Rattle.tile_packs.specs.TilePacks.{packs, renewed}
use Rattle.phases.specs.Phases.{OutputClear, words_of_c, begun}
use Rattle.thin_tile.specs.ThinTile.{TileClear, tile_added}
use Rattle.one_tile.specs.HeldPacks.{HeldAfter}
use Rattle.one_tile.proofs.HeldBlocks.{some_rows, held_after}
use Rattle.one_tile.proofs.TilePhases.{tile_numbered, tile_stepped, tile_started}
use Rattle.one_tile.proofs.tile.run_tile.Goals.{else-thin-via-then-thin+else-thin_tile, else-thin-via-else-thin}
use Rattle.one_tile.proofs.tile.run_tile.Goals as goal

-- the first of two blocks has room where both have, and the second behind it
first_room : (G : Cut) {z : ℕ} → packs G ≤ z → G.rows * G.depth ≤ z
first_room G h = omega arith

room_behind : (G : Cut) {z : ℕ} → packs G ≤ z → G.cols * G.depth ≤ z - G.rows * G.depth
room_behind G h = omega arith

-- the tile's words of D are inside
out_clear : {p : Plan} {G : Cut} {named : Bool} {a b c d : ℕ} → Clear p G named a b c d → OutputClear p G D d
out_clear k = record { inside = λ h i j x y z. k.places.inside h i j (x, y, z) }

-- the tile's words of A and B are inside too
tile_clear : {p : Plan} {G : Cut} {named : Bool} {a b c d : ℕ} → Clear p G named a b c d → TileClear p G a b d
tile_clear k = record { reads = k.in_side; places = k.places }

-- a thin tile goes without packing just where it is not the last
not_last : (thin last : Bool) → (thin && not last) ≡ true → last ≡ true → ⊥
not_last true true e h = true≢false (sym e)
not_last true false e h = true≢false (sym h)
not_last false last e h = true≢false (sym e)

pub start_from_c-requires : goal.start_from_c-requires
start_from_c-requires c =
    let q = c.requires in
    (record { grid = q.0; begins = tile_begins q.0 q.1 c.tile.ensures }, λ e. record { inside = q.2.in_c e }, out_clear q.2)

pub is_thin-requires : goal.is_thin-requires
is_thin-requires c = let q = c.requires in (q.0.counted.fits, tile_begins q.0 q.1 c.tile.ensures)

pub thin_tile-requires : goal.thin_tile-requires
thin_tile-requires c =
    let q = c.requires in
    (record { grid = q.0; begins = tile_begins q.0 q.1 c.tile.ensures }, subst (TileClear _ _ _ _) (sym c.start_from_c.auto.d) (tile_clear q.2))

pub returns-then-thin_tile : goal.returns-then-thin_tile
returns-then-thin_tile c =
    let k = c.args.k in
    let p = k.plan.now in
    let q = c.requires in
    let t = c.tile.ensures in (
      tile_numbered p t k.a.now k.b.now k.alpha k.beta _
          (c.if-thin_tile.ensures ∙ ap (tile_added p (cut_in k.grid.now) c.tile.result k.alpha k.beta k.a.now k.b.now) c.start_from_c.ensures)
          ∙ tile_started p t q.1 k.alpha k.beta k.a.now k.b.now (words_of_c k.c) c.args.d.now q.2.places (is_some k.c),
      record { held = λ e. absurd (true≢false (sym e)); same = λ e. refl; end = λ e. absurd (not_last c.is_thin.result c.args.last c.if-thin.true e) },
    )

pub pack_a-requires : goal.pack_a-requires
pack_a-requires c =
    let q = c.requires in
    (record { grid = q.0; begins = tile_begins q.0 q.1 c.tile.ensures }, record { reads = q.2.in_side left; room = first_room (cut_in c.args.k.grid.now) q.3 })

pub renew_b-requires : goal.renew_b-requires
renew_b-requires c =
    let q = c.requires in
    let G = cut_in c.args.k.grid.now in
    let same = c.pack_a.auto.work in (
      record { grid = q.0; begins = tile_begins q.0 q.1 c.tile.ensures },
      rw same (first_room G q.3),
      record { reads = q.2.in_side right; room = rw same (room_behind G q.3) },
    )

pub multiply_into_d-requires : goal.multiply_into_d-requires
multiply_into_d-requires c =
    let q = c.requires in (
      record { grid = q.0; begins = tile_begins q.0 q.1 c.tile.ensures },
      subst (OutputClear _ _ D) (sym (c.else-thin.auto.d ∙ c.start_from_c.auto.d)) (out_clear q.2),
      rw (c.renew_b.auto.work, c.pack_a.auto.work) q.3,
    )

pub returns : goal.returns
returns c =
    let s = c.args in
    let k = s.k in
    let p = k.plan.now in
    let q = c.requires in
    let G = cut_in k.grid.now in
    let t = c.tile.ensures in
    let x = c.tile.result in
    let e = c.renew_b.ensures ∙ ap (renewed p G x s.held k.b.now) c.pack_a.ensures in
    let h = subst (HeldAfter p G k.a.now k.b.now s.n s.work.now) (sym e)
    (held_after p G k.a.now k.b.now t (some_rows G q.1) s.held s.work.now q.3 q.4) in
    let d : c.else-thin.d ≡ begun p G x (is_some k.c) (words_of_c k.c) s.d.now =
    elim c.else-thin.branch [
      | else-thin-via-then-thin+else-thin_tile w ↦ w.d-is ∙ w.if-thin_tile.ensures ∙ c.start_from_c.ensures
      | else-thin-via-else-thin w ↦ w.d-is ∙ c.start_from_c.ensures
    ] in (
      tile_stepped p t k.a.now k.b.now h.blocks c.multiply_into_d.ensures
          ∙ ap (tile_step _ _) d
          ∙ tile_started p t q.1 k.alpha k.beta k.a.now k.b.now (words_of_c k.c) s.d.now q.2.places (is_some k.c),
      record { held = λ z. h; same = λ z. absurd (true≢false z); end = λ z. refl },
    )
