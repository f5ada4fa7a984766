-- `fill` meets its contract. The invariant, with m for the run of `start`: the words of D are those that the counts of the first m runs leave, and
-- where there is a run m, the digits and address words are where it begins. A turn fills the places of that run or of four, which are those of the
-- counts from len × m on. The measure is how many runs are left.
-- Assumes nothing.
use mathlib.Core.Path.{◌≡◌}
use Prim.Native.Nat.{◌-◌, ◌*◌, ◌<◌, ◌≤◌}
use lib.ListN.{length, drop}
use Rattle.words.specs.Loops.{each}
use Rattle.limits.specs.Limits.{labels_limit}
use Rattle.offsets.specs.Offsets.{words_in}
use Rattle.odometer.specs.Odometer.{Stands}
use Rattle.sums.specs.Walk.{places, over}
use Rattle.output_run.specs.FilledOutput.{filled_of}
use Rattle.direct.proofs.fill.fill.Given as goal

abbrev pub invariant-loop-start : goal.invariant-loop-start
invariant-loop-start l =
    (l.start.run ≤ l.output.runs) × (length l.start.digits ≡ labels_limit) × (length l.d ≡ length l.initial.d)
    × (l.d ≡ each (l.output.len * l.start.run) (λ n. filled_of l.x (over l.fn.depth) (places l.base (over l.output) n)) l.initial.d)
    × (l.start.run < l.output.runs → Stands (drop 1 (over l.output)) (words_in l.base) l.start.run l.start.digits l.start.at)

abbrev pub decreases-loop-start : goal.decreases-loop-start
decreases-loop-start l = l.output.runs - l.start.run
