-- Blocks of no offset, of one, and of more than 64, by computation.
-- Assumes nothing.
use Rattle.std.proofs.Common.{refl}
use Rattle.block.specs.Block.{classify, block_step}
use Rattle.block.specs.BlockCases.{BlockCases}

pub block_cases : BlockCases
unfolding classify block_step
block_cases =
    record {
      none = refl;
      one = refl;
      two = refl;
      down = refl;
      uneven = refl;
      above_64 = refl;
    }
