-- `best_lag` meets its contract. The loop's invariant: the lag is the best of those up to l.
-- Assumes nothing.
use mathlib.Core.Path.{◌≡◌}
use Prim.Native.Nat.{◌≤◌}
use Rattle.scores.specs.Score.{signed_at, best}
use Rattle.scores.proofs.best_lag.best_lag.Given as goal

abbrev pub invariant-loop-l : goal.invariant-loop-l
invariant-loop-l l = (l.lag ≤ l.l) × (l.lag ≡ best (signed_at l.scores) l.l)
