-- `cut_block` meets its contract: the block begins and ends inside the group, so that no product wraps and its offsets fit their array.
-- Assumes nothing.
use Rattle.tile_blocks.proofs.TileParts.{part_ends}
use Rattle.tile_blocks.proofs.tile_places.cut_block.Goals as goal

pub block_of-requires : goal.block_of-requires
block_of-requires c =
    let e = part_ends c.requires c.width_of.ensures in
    (c.requires.few, e.0, e.1, e.2)
