-- `fill_four` meets its contract. The invariant: the address words of each run are v steps from its first, and the words of D are those that the first v counts of
-- the four runs leave. A turn fills a block of the next counts of each run, or the last one those that are left.
-- Assumes nothing.
use Rattle.std.proofs.Common.{◌≡◌, ℕ, ◌≤◌, is_some}
use Rattle.offsets.specs.Offsets.{words_in}
use Rattle.output_words.specs.StartWords.{words_of}
use Rattle.sums.specs.Walk.{steps, over}
use Rattle.four_lanes.specs.FourLanes.{of_run}
use Rattle.four_runs.specs.FourRuns.{four_filled}
use Rattle.four_runs.proofs.four_runs.fill_four.Given as goal

abbrev pub invariant-loop-v : goal.invariant-loop-v
invariant-loop-v l =
    record {
      within : l.v ≤ l.run.len;
      at : (q : ℕ) → words_in (of_run l.at0 l.at1 l.at2 l.at3 q) ≡ steps (of_run l.initial.at0 l.initial.at1 l.initial.at2 l.initial.at3 q) l.run.step l.v;
      d : l.d
          ≡ four_filled (is_some l.x.c) l.x.alpha l.x.beta (over l.depth.walk) l.x.a.now l.x.b.now (words_of l.x.c) l.run.step l.v
          (of_run l.initial.at0 l.initial.at1 l.initial.at2 l.initial.at3) l.initial.d;
    }
