-- `take_column` meets its contract. The invariant: the first r words are the column's.
-- Assumes nothing.
use Rattle.std.proofs.Common.{◌≡◌, ℕ, ◌+◌, ◌*◌, ◌<◌, length, get_or}
use Rattle.few_rows.proofs.few.take_column.Given as goal

abbrev pub invariant-loop-r : goal.invariant-loop-r
invariant-loop-r l = (length l.sums ≡ length l.initial.sums) × ((k : ℕ) → k < l.r → get_or l.sums k 0 ≡ get_or l.few (4 * l.c + k) 0)
