-- `pad_blocks` meets its contract: the tile's blocks have as many places in use as its counts, and zeros past them leave both padded.
-- Assumes nothing.
use Prim.Native.Nat.{ℕ, ◌*◌, ◌≤◌}
use native.Mathlib.Nat.{le_of_lt}
use native.Mathlib.Omega.{arith}
use Rattle.tiles.specs.Cut.{Cut}
use Rattle.tiles.specs.Grid.{cut_in}
use Rattle.tiles.proofs.Cuts.{width_le}
use Rattle.tile_blocks.specs.Side.{left, right}
use Rattle.tile_packs.specs.TilePacks.{packs}
use Rattle.tile_packs.proofs.PaddedBlocks.{part_room, both_padded}
use Rattle.tile_packs.proofs.packs.pad_blocks.Goals as goal

-- the first of two blocks has room where both have
first_room : (G : Cut) {z : ℕ} → packs G ≤ z → G.rows * G.depth ≤ z
first_room G h = omega arith

pub width_of-requires : goal.width_of-requires
width_of-requires c = le_of_lt (c.requires.1.side left)

pub pad-requires : goal.pad-requires
pad-requires c =
    let G = cut_in c.args.g in
    (rw c.width_of.ensures (width_le G.M G.rows c.args.at.row), rw c.width_of-filled.ensures (width_le G.K G.depth c.args.at.panel), first_room G c.requires.2)

pub width_of-requires-2 : goal.width_of-requires-2
width_of-requires-2 c = le_of_lt (c.requires.1.side right)

pub pad-requires-2 : goal.pad-requires-2
pad-requires-2 c =
    let G = cut_in c.args.g in (
      rw c.width_of-2.ensures (width_le G.N G.cols c.args.at.column),
      rw c.width_of-filled.ensures (width_le G.K G.depth c.args.at.panel),
      part_room G c.args.at c.args.work.now (rw (c.width_of.ensures, c.width_of-filled.ensures) at c.pad.ensures) c.requires.2,
    )

pub returns : goal.returns
returns c =
    let filled = c.width_of-filled.ensures in
    both_padded (cut_in c.args.g) c.args.at c.args.work.now (rw (c.width_of.ensures, filled) at c.pad.ensures)
    (rw (c.width_of-2.ensures, filled) at c.pad-2.ensures)
