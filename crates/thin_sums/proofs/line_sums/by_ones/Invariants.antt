-- `by_ones` meets its contract. The invariant: `at` is as many past the first word as words were looked at, and so is each of these by its place.
-- Assumes nothing.
use Rattle.std.proofs.Common.{◌≡◌, get_or}
use Rattle.words.specs.Words.{word}
use Rattle.words.specs.Stepped.{stepped}
use Rattle.thin_sums.specs.LineSums.{ByOnes}
use Rattle.thin_sums.proofs.line_sums.by_ones.Given as goal

abbrev pub invariant-loop-x : goal.invariant-loop-x
invariant-loop-x l = (word 64 l.at ≡ stepped (get_or l.xs 0 0) 1 l.x-index) × ByOnes l.x-index l.xs
