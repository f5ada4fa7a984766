-- `pack_a` meets its contract: A is the left side, whose block is that of the tile's rows.
-- Assumes nothing.
use Rattle.tile_blocks.specs.Side.{left}
use Rattle.tile_packs.proofs.packs.pack_a.Given as goal

abbrev pub ghost-pack_side : goal.ghost-pack_side
ghost-pack_side a = left
