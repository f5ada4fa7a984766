-- `renew_b` meets its contract: it packs but where the tile before left the block. Packed at the front of the part behind A's block, it stands at its place.
-- Assumes nothing.
use Rattle.tile_blocks.specs.Side.{right}
use Rattle.tile_packs.proofs.packs.renew_b.Given as goal

abbrev pub ghost-pack_side : goal.ghost-pack_side
ghost-pack_side a = right
