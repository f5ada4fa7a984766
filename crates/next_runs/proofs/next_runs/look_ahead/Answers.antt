-- `look_ahead` meets its contract: each run begins where the digits and address words of the one before are carried to.
-- Assumes nothing.
use native.Mathlib.Omega.{arith}
use Rattle.next_runs.proofs.Carrying.{three_ahead}
use Rattle.next_runs.proofs.next_runs.look_ahead.Goals as goal

pub returns-then-shares : goal.returns-then-shares
returns-then-shares c =
    (omega arith, c.shares.ensures c.if-shares.true, three_ahead c.advance-second.ensures c.advance-third.ensures c.advance-fourth.ensures)
