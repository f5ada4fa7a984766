-- `sums_of_rows` meets its contract. The invariant: the sums of the first r rows stand at their places. A turn puts those of row r.
-- Assumes nothing.
use Rattle.std.proofs.Common.{◌≡◌, ◌*◌, length}
use Rattle.limits.specs.Limits.{block_limit}
use Rattle.columns.specs.Stored.{tile_sum}
use Rattle.few_rows.specs.FewSums.{FewSums}
use Rattle.few_rows.proofs.few.sums_of_rows.Given as goal

abbrev pub invariant-loop-r : goal.invariant-loop-r
invariant-loop-r l = (length l.few ≡ 4 * block_limit) × FewSums l.r l.n (tile_sum l.work l.p) l.few
