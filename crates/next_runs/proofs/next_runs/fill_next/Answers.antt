-- `fill_next` meets its contract: the places of a run, or of four, are those of the counts from the run's first on, and four runs have no place in common.
-- Assumes nothing.
use mathlib.Core.Path.{◌∙◌}
use Prim.Native.Nat.{ℕ, ◌+◌, ◌<◌, ◌≤◌}
use native.Mathlib.Omega.{arith}
use lib.ListN.{length, drop}
use Rattle.std.specs.Prelude.{is_some}
use Rattle.words.specs.Loops.{each}
use Rattle.offsets.specs.declared.offsets.Offsets.{Offsets}
use Rattle.offsets.specs.Offsets.{words_in}
use Rattle.output_words.specs.StartWords.{words_of}
use Rattle.sums.specs.Walk.{steps, over}
use Rattle.output_run.specs.FilledOutput.{filled_of, Clear}
use Rattle.four_lanes.specs.FourLanes.{of_run}
use Rattle.four_lanes.proofs.ByRun.{by_run}
use Rattle.next_runs.specs.NextRuns.{Begins}
use Rattle.next_runs.proofs.RunsSoFar.{run_clear, runs_as_one, runs_apart, behind}
use Rattle.next_runs.proofs.Carrying.{one_begins}
use Rattle.next_runs.proofs.next_runs.fill_next.Goals as goal

pub fill_four-requires : goal.fill_four-requires
fill_four-requires c =
    let x = c.args in
    let r = c.in-Some.next in
    let runs = of_run x.start.now.at r.second r.third r.fourth in
    let n = c.in-Some.ensures in
    let left : x.start.now.run + 4 ≤ x.output.now.walk.runs = omega (arith, n.0) in
    let begins : (q : ℕ) → q < 4 → Begins (drop 1 (over x.output.now.walk)) (words_in x.base) (x.start.now.run + q) (runs q) =
    n.2.each _ _ _ (behind c.requires.0.outputs x.base (x.start.now.run + 3) (omega (arith, left))) x.output.now.carried.tabled c.requires.3 in
    let clear : (q : ℕ) → q < 4 → Clear (is_some x.x.now.c) x.output.now.walk.len (steps (runs q) x.output.now.walk.step) (over x.depth.now.walk)
    x.x.now.a.now x.x.now.b.now (words_of x.x.now.c) (length x.d.now) =
    λ q h. run_clear c.requires.0.outputs x.base (omega (arith, left)) (begins q h) c.requires.0.clear in (
      n.1,
      runs_apart c.requires.0.outputs x.base x.start.now.run runs left begins c.requires.0.distinct,
      by_run (λ (f : Offsets). Clear (is_some x.x.now.c) x.output.now.walk.len (steps f x.output.now.walk.step) (over x.depth.now.walk) x.x.now.a.now x.x.now.b.now (words_of x.x.now.c) (length x.d.now))
          (clear 0 (omega arith)) (clear 1 (omega arith)) (clear 2 (omega arith)) (clear 3 (omega arith)),
    )

pub returns-in-Some : goal.returns-in-Some
returns-in-Some c =
    let x = c.args in
    let r = c.in-Some.next in
    let runs = of_run x.start.now.at r.second r.third r.fourth in
    let n = c.in-Some.ensures in
    let left : x.start.now.run + 4 ≤ x.output.now.walk.runs = omega (arith, n.0) in
    let begins : (q : ℕ) → q < 4 → Begins (drop 1 (over x.output.now.walk)) (words_in x.base) (x.start.now.run + q) (runs q) =
    n.2.each _ _ _ (behind c.requires.0.outputs x.base (x.start.now.run + 3) (omega (arith, left))) x.output.now.carried.tabled c.requires.3 in (
      omega arith,
      left,
      c.fill_four.ensures
          ∙ runs_as_one c.requires.0.outputs x.base x.start.now.run runs (filled_of x.x.now (over x.depth.now.walk)) 4 left begins x.d.now,
    )

pub fill_outputs-requires : goal.fill_outputs-requires
fill_outputs-requires c =
    run_clear c.requires.0.outputs c.args.base c.requires.2 (record { digits = c.args.start.now.digits; stands = c.requires.3 }) c.requires.0.clear

pub returns-in-None : goal.returns-in-None
unfolding each
returns-in-None c =
    let x = c.args in
    let begin : Begins (drop 1 (over x.output.now.walk)) (words_in x.base) x.start.now.run x.start.now.at = record { digits = x.start.now.digits; stands = c.requires.3 } in (
      omega arith,
      omega (arith, c.requires.2),
      c.fill_outputs.ensures
          ∙ runs_as_one c.requires.0.outputs x.base x.start.now.run (λ q. x.start.now.at) (filled_of x.x.now (over x.depth.now.walk))
          1 (omega (arith, c.requires.2)) (one_begins begin) x.d.now,
    )
