-- `turn` meets its contract. The invariant: the labels before i were at their last values and are at 0, the others are as they were.
-- Assumes nothing.
use Rattle.std.proofs.Common.{◌≡◌, ℕ, ◌<◌, ◌≤◌, List, get_or}
use Rattle.odometer.specs.Odometer.{last_in}
use Rattle.odometer.proofs.odometer.turn.Given as goal

-- the first i digits were their last ones, and are 0
pub record Cleared (last : ℕ → ℕ) (old new : List ℕ) (i : ℕ) : Type 0 where
  pub full : (k : ℕ) → k < i → last k ≤ get_or old k 0
  pub zeros : (k : ℕ) → k < i → get_or new k 0 ≡ 0
  pub rest : (k : ℕ) → i ≤ k → get_or new k 0 ≡ get_or old k 0

abbrev pub invariant-loop-i : goal.invariant-loop-i
invariant-loop-i l = Cleared (last_in l.rows) l.initial.digits l.digits l.i
