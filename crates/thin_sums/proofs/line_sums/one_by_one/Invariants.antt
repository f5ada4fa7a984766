-- `one_by_one` meets its contract. The invariant: the first r sums are there; each is that along a run of places.
-- Assumes nothing.
use Rattle.std.proofs.Common.{◌≡◌, length}
use Rattle.words.specs.Words.{word}
use Rattle.words.proofs.Filled.{Filled}
use Rattle.limits.specs.Limits.{block_limit}
use Rattle.thin_sums.specs.Sides.{side_sum}
use Rattle.thin_sums.proofs.line_sums.one_by_one.Given as goal

abbrev pub invariant-loop-r : goal.invariant-loop-r
invariant-loop-r l =
    let x = l.x in
    (length l.initial.sums ≡ block_limit) × Filled (λ i. word 32 (side_sum x l.line i)) l.initial.sums l.sums l.r
