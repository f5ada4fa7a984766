-- `four_sums` meets its contract. The invariant: the sums of each run of outputs have grown by the products at the counts of the first m runs of the depth group,
-- and where there is a run m, the digits and address words are where it begins for the first run of outputs. B's word of another run is as far from there as where
-- it began, and A's is the same.
-- Assumes nothing.
use Rattle.std.proofs.Common.{◌≡◌, ◌+◌, ◌*◌, ◌<◌, length, drop}
use Rattle.words.specs.Words.{word}
use Rattle.words.specs.Stepped.{stepped}
use Rattle.limits.specs.Limits.{labels_limit}
use Rattle.contraction.specs.declared.contraction.Operand.TheVariants.{A, B}
use Rattle.offsets.specs.Offsets.{words_in}
use Rattle.odometer.specs.Odometer.{Stands}
use Rattle.sums.specs.Walk.{over}
use Rattle.side_sums.specs.SideSums.{Added}
use Rattle.side_sums.proofs.GroupSums.{up_to}
use Rattle.four_sums.proofs.four_sums.four_sums.Given as goal

abbrev pub invariant-loop-m : goal.invariant-loop-m
invariant-loop-m l =
    (length l.digits ≡ labels_limit)
    × (l._m < l.depth.walk.runs → Stands (drop 1 (over l.depth.walk)) (words_in l.initial.at) l._m l.digits l.at)
    × Added l.fn.run.len (λ r. up_to (over l.depth.walk) l.a l.b (l.depth.walk.len * l._m) (stepped (words_in l.initial.at A) 1 r) (words_in l.initial.at B)) l.initial.s0 l.s0
    × Added l.fn.run.len (λ r. up_to (over l.depth.walk) l.a l.b (l.depth.walk.len * l._m) (stepped (words_in l.initial.at A) 1 r) (word 64 (l.to_1 + words_in l.initial.at B))) l.initial.s1 l.s1
    × Added l.fn.run.len (λ r. up_to (over l.depth.walk) l.a l.b (l.depth.walk.len * l._m) (stepped (words_in l.initial.at A) 1 r) (word 64 (l.to_2 + words_in l.initial.at B))) l.initial.s2 l.s2
    × Added l.fn.run.len (λ r. up_to (over l.depth.walk) l.a l.b (l.depth.walk.len * l._m) (stepped (words_in l.initial.at A) 1 r) (word 64 (l.to_3 + words_in l.initial.at B))) l.initial.s3 l.s3
