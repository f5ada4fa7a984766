-- A lane of as many words as a whole block: what is added along the block is what is added along the lane.
-- Assumes nothing.
use Rattle.std.proofs.Common.{◌≡◌, ℕ, List}
use Rattle.lanes.specs.LaneProducts.{products_added}

pub along_whole : {m : ℕ} (n : ℕ) (v : ℕ → ℕ) (before : List ℕ) {after : List ℕ} → n ≡ m → after ≡ products_added m v before → after ≡ products_added n v before
along_whole n v before e k = rw e k
