-- Blocks of no offset, of one, and of more than 64.
-- Assumes nothing.
use Rattle.std.specs.Prelude.{◌≡◌, suc, [], ◌∷◌}
use Rattle.words.specs.Lists.{tabulate}
use Rattle.block.specs.Block.{even, scattered, block_step}

pub record BlockCases : Type 0 where
  -- "a block of one or none is even with step 0"
  pub none : block_step 0 (7 ∷ 9 ∷ []) ≡ even 0
  pub one : block_step 1 (7 ∷ 9 ∷ []) ≡ even 0
  -- "A block is even with step s when each offset is the one before plus s": so is one that goes down, in address words
  pub two : block_step 2 (7 ∷ 9 ∷ []) ≡ even 2
  pub down : block_step 3 (9 ∷ 7 ∷ 5 ∷ []) ≡ even 18446744073709551614
  pub uneven : block_step 3 (9 ∷ 7 ∷ 6 ∷ []) ≡ scattered
  -- "A count above 64 is read as 64": the 64 offsets 1, 2, .., 64, with nothing after them
  pub above_64 : block_step 65 (tabulate 64 suc) ≡ even 1
