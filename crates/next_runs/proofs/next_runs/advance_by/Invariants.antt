-- `advance_by` meets its contract. The invariant: the digits and address words are those of the i-th count after the first.
-- Assumes nothing.
use mathlib.Core.Path.{◌≡◌}
use lib.ListN.{length}
use Rattle.next_runs.specs.NextRuns.{Moved}
use Rattle.next_runs.proofs.next_runs.advance_by.Given as goal

abbrev pub invariant-loop-i : goal.invariant-loop-i
invariant-loop-i l = (length l.digits ≡ length l.initial.digits) × Moved l._i l.rows l.initial.digits l.digits l.initial.at l.at
