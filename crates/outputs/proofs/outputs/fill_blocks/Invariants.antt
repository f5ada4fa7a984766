-- `fill_blocks` meets its contract. The invariant: the address words are v steps from the first, and the words of D are those that the first v counts of the run
-- leave. A turn fills a block of the next counts, or the last one those that are left.
-- Assumes nothing.
use Rattle.std.proofs.Common.{◌≡◌, ◌≤◌, ◌-◌}
use Rattle.words.specs.Loops.{each}
use Rattle.offsets.specs.Offsets.{words_in}
use Rattle.sums.specs.Walk.{steps, over}
use Rattle.output_run.specs.FilledOutput.{filled_of}
use Rattle.outputs.proofs.outputs.fill_blocks.Given as goal

abbrev pub invariant-loop-v : goal.invariant-loop-v
invariant-loop-v l =
    record {
      within : l._v ≤ l.run.len;
      rest : l.left ≡ l.run.len - l._v;
      at : words_in l.at ≡ steps l.initial.at l.run.step l._v;
      d : l.d ≡ each l._v (λ k. filled_of l.x (over l.depth.walk) (steps l.initial.at l.run.step k)) l.initial.d;
    }
