-- `pack_side` meets its contract: the side's block and the starts of its depth counts lie where the tile stands, so that each place that is read is inside and each word
-- that is packed is the entry at the tile's counts.
-- Assumes nothing.
use mathlib.Core.Path.{refl}
use Rattle.tiles.specs.Grid.{cut_in}
use Rattle.tile_packs.proofs.SideBlocks.{side_packable, side_packed_lem}
use Rattle.tile_packs.proofs.packs.pack_side.Goals as goal

pub pack-requires : goal.pack-requires
pack-requires g c =
    let t = c.args.t in
    let q = c.requires in
    let s = rw q.1 at c.depth_starts-filled.ensures in
    rw q.3 (side_packable t.plan.now (cut_in t.grid.now) t.at g.s q.2 refl s.0 s.1 q.0.grid.counted.fits q.0.begins q.4)

pub returns : goal.returns
returns g c =
    let t = c.args.t in
    let q = c.requires in
    let s = rw q.1 at c.depth_starts-filled.ensures in
    side_packed_lem t.plan.now (cut_in t.grid.now) t.at g.s q.2 refl s.0 s.1 c.args.words.now c.args.out.now (rw q.3 at c.pack.ensures)
