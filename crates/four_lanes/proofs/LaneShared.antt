-- A lane of A that four runs of outputs share: its words stand one after the other, and each run adds them times its own word of B.
-- Assumes nothing.
use Rattle.std.proofs.Common.{◌≡◌, ℕ, ◌+◌, ◌^◌, ◌<◌, ◌≤◌, List, length, get_or, refl, ◌∙◌, arith}
use Rattle.words.specs.Loops.{Within}
use Rattle.words.specs.Stepped.{stepped}
use Rattle.limits.specs.Limits.{block_limit}
use Rattle.lanes.specs.LaneProducts.{products_added, scaled}
use Rattle.lanes.proofs.LaneTurns.{row_room, row_at}
use Rattle.side_sums.specs.SideSums.{side_run}
use Rattle.side_sums.proofs.SideTurns.{crossed, across, run_turn}
use Rattle.four_lanes.specs.FourLanes.{LanesAdded}

-- the lane of depth count v begins at i, v steps from x
module _ {n : ℕ} (some : 1 ≤ n) (few : n ≤ block_limit) (a : List ℕ) (short : length a < 2 ^ 63) (x s : ℕ) {len v i : ℕ} (e : i ≡ stepped x s v) (h : v < len)
    (w : (r : ℕ) → r < n → Within len (side_run x 1 s r) (length a)) where
  low : i < 2 ^ 64
  low = omega arith

  pub lane_room : i + n ≤ length a
  lane_room = row_room some few {x = i} low short refl (across x s 1 v e h w)

  lane_at : (r : ℕ) → r < n → i + r ≡ side_run x 1 s r v
  lane_at r l = row_at some few {x = i} low short refl (across x s 1 v e h w) r l ∙ crossed x s 1 v r e

  -- one depth count more for a run whose words of B are t apart from y on
  pub lane_turn : (b : List ℕ) (y t j : ℕ) (old mid new : List ℕ) → j ≡ stepped y t v → length old ≡ block_limit → LanesAdded n v x s a y t b old mid
      → new ≡ products_added n (scaled a i (get_or b j 0)) mid → LanesAdded n (v + 1) x s a y t b old new
  lane_turn b y t j old mid new q long added p =
      run_turn a b (side_run x 1 s) (λ r. stepped y t) n v (scaled a i (get_or b j 0)) few long added p (λ r l. rw (lane_at r l, q))
