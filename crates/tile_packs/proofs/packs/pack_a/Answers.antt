-- `pack_a` meets its contract: A is the left side, whose block is that of the tile's rows.
-- Assumes nothing.
use mathlib.Core.Path.{refl}
use Rattle.tile_packs.proofs.packs.pack_a.Goals as goal

pub pack_side-requires : goal.pack_side-requires
pack_side-requires c = (c.requires.0, refl, c.rows-block.ensures, refl, c.requires.1)
