-- `renew_b` meets its contract: it packs but where the tile before left the block. Packed at the front of the part behind A's block, it stands at its place.
-- Assumes nothing.
use mathlib.Core.Path.{◌≡◌, refl}
use mathlib.Core.Bool.{Bool, true, false, ◌&&◌}
use mathlib.Core.List.{List}
use Prim.Native.Nat.{ℕ, ◌*◌, ◌-◌, ◌≤◌}
use native.Mathlib.Omega.{arith}
use lib.Dec.{ltb}
use lib.ListN.{length, length-take, length-drop}
use borrow.Rule.Slice.PartMut.{mid_of, put_mid}
use Rattle.plan.specs.declared.plan.Plan.{Plan}
use Rattle.tiles.specs.declared.grid.Tile.{Tile}
use Rattle.tiles.specs.Cut.{Cut}
use Rattle.tiles.specs.Grid.{cut_in}
use Rattle.tile_blocks.specs.Side.{right}
use Rattle.tile_packs.specs.TilePacks.{side_lanes, side_packed, renewed}
use Rattle.tile_packs.proofs.PartLanes.{part_lanes}
use Rattle.tile_packs.proofs.packs.renew_b.Goals as goal

-- the part has as much room as is behind
part_room : (a : ℕ) {z : ℕ} (ys : List ℕ) → z ≤ length ys - a → z ≤ length (mid_of a (length ys - a) ys)
part_room a ys h = simp (length-take, length-drop) (omega arith)

-- what the product finds, by the test
module _ (p : Plan) (G : Cut) (x : Tile) (held : Bool) (b work : List ℕ) where
  left_there : {r : List ℕ} → (held && ltb 0 x.row) ≡ true → r ≡ work → r ≡ renewed p G x held b work
  left_there e q = rw e q

  in_part : {part : List ℕ} → G.rows * G.depth ≤ length work → part ≡ side_lanes p G x right b 0 (mid_of (G.rows * G.depth) (length work - G.rows * G.depth) work)
      → put_mid (G.rows * G.depth) (length work - G.rows * G.depth) work part ≡ side_packed p G x right b work
  unfolding side_lanes
  in_part h q = part_lanes (G.rows * G.depth) work _ _ _ _ h q

  packed_anew : {r : List ℕ} → (held && ltb 0 x.row) ≡ false → r ≡ side_packed p G x right b work → r ≡ renewed p G x held b work
  packed_anew e q = rw e q

pub returns-then-held-t : goal.returns-then-held-t
returns-then-held-t c =
    let s = c.args in
    left_there s.t.plan.now (cut_in s.t.grid.now) s.t.at s.held s.b.now s.work.now c.if-held-t.true refl

pub pack_side-requires : goal.pack_side-requires
pack_side-requires c =
    let q = c.requires in
    (q.0, refl, c.columns-block.ensures, refl, record { reads = q.2.reads; room = part_room _ c.args.work.now q.2.room })

pub returns : goal.returns
returns c =
    let a = c.args in
    let t = a.t in
    packed_anew t.plan.now (cut_in t.grid.now) t.at a.held a.b.now a.work.now c.if-held-t.false
    (in_part t.plan.now (cut_in t.grid.now) t.at a.held a.b.now a.work.now c.requires.1 c.pack_side.ensures)
