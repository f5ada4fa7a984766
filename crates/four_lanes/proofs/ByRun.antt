-- By cases on the run, one of four.
-- Assumes nothing.
use Rattle.std.proofs.Common.{ℕ, zero, suc}
use Rattle.four_lanes.specs.FourLanes.{of_run}

-- what holds of four things holds of each run's
pub by_run : {X : Type 0} (P : X → Type 0) {x y z w : X} → P x → P y → P z → P w → (q : ℕ) → P (of_run x y z w q)
by_run P a b c d zero = a
by_run P a b c d (suc zero) = b
by_run P a b c d (suc (suc zero)) = c
by_run P a b c d (suc (suc (suc q))) = d

pub by_runs : {X Y : Type 0} (P : X → Y → Type 0) {x y z w : X} {x' y' z' w' : Y} → P x x' → P y y' → P z z' → P w w' → (q : ℕ) → P (of_run x y z w q) (of_run x' y' z' w' q)
by_runs P a b c d zero = a
by_runs P a b c d (suc zero) = b
by_runs P a b c d (suc (suc zero)) = c
by_runs P a b c d (suc (suc (suc q))) = d
