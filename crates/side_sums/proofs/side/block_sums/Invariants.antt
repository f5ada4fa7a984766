-- `block_sums` meets its contract. The invariant: each sum has grown by the products at the counts of the first m runs, and where there is a run m, the digits
-- and address words are where it begins. A run's places are those of its counts.
-- Assumes nothing.
use Rattle.std.proofs.Common.{◌≡◌, ◌*◌, ◌<◌, length, drop}
use Rattle.words.specs.Stepped.{stepped}
use Rattle.limits.specs.Limits.{labels_limit}
use Rattle.contraction.specs.declared.contraction.Operand.TheVariants.{A, B}
use Rattle.offsets.specs.Offsets.{words_in}
use Rattle.odometer.specs.Odometer.{Stands}
use Rattle.sums.specs.Walk.{over}
use Rattle.side_sums.specs.SideSums.{Added}
use Rattle.side_sums.proofs.GroupSums.{up_to}
use Rattle.side_sums.proofs.side.block_sums.Given as goal

abbrev pub invariant-loop-m : goal.invariant-loop-m
invariant-loop-m l =
    (length l.digits ≡ labels_limit)
    × Added l.run.len (λ r. up_to (over l.depth.walk) l.a l.b (l.depth.walk.len * l._m) (stepped (words_in l.initial.at A) (words_in l.run.step A) r) (stepped (words_in l.initial.at B) (words_in l.run.step B) r)) l.initial.sums l.sums
    × (l._m < l.depth.walk.runs → Stands (drop 1 (over l.depth.walk)) (words_in l.initial.at) l._m l.digits l.at)
