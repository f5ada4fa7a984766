-- `fill_four` meets its contract. The invariant: the address words of each run are v steps from its first, and the words of D are those that the first v counts of
-- the four runs leave. A turn fills a block of the next counts of each run, or the last one those that are left.
-- Assumes nothing.
use Rattle.std.proofs.Common.{◌≡◌, ℕ, ◌+◌, ◌≤◌, refl, is_some, arith}
use Rattle.words.specs.Loops.{each}
use Rattle.offsets.specs.declared.offsets.Offsets.{Offsets}
use Rattle.offsets.specs.Offsets.{words_in}
use Rattle.offsets.proofs.OwnedWords.{words_fit}
use Rattle.output_words.specs.StartWords.{words_of}
use Rattle.sums.specs.Walk.{steps, over}
use Rattle.outputs.proofs.Blocks.{steps_first, leapt, block_clear}
use Rattle.four_lanes.specs.FourLanes.{of_run}
use Rattle.four_lanes.proofs.ByRun.{by_run, by_runs}
use Rattle.four_sums.specs.FourRunSums.{begins_of}
use Rattle.four_runs.specs.FourRuns.{Apart}
use Rattle.four_runs.proofs.FourBlocks.{shared_blocks, four_turn}
use Rattle.four_runs.proofs.four_runs.fill_four.Goals as goal

-- the places of fewer counts
fewer : {n len : ℕ} {from : ℕ → Offsets} {step : Offsets} → n ≤ len → Apart len from step → Apart n from step
fewer h a = record { each = λ i j p q k l m o. a.each i j p q k l (omega arith) (omega arith) }

pub loop-v-init : goal.loop-v-init
unfolding each
loop-v-init c =
    let r = c.args.run in
    let next = c.args.next in
    record {
      within = omega arith;
      at = by_run (λ (f : Offsets). words_in f ≡ steps f r.step 0)
          (steps_first r.from r.step (words_fit r.from.words _ c.well_formed.1.1.0.1.1.0.1.1.0.1.1))
          (steps_first next.second r.step (words_fit next.second.words _ c.well_formed.1.1.1.0.1.1.0.1.1.0.1.1))
          (steps_first next.third r.step (words_fit next.third.words _ c.well_formed.1.1.1.0.1.1.1.0.1.1.0.1.1))
          (steps_first next.fourth r.step (words_fit next.fourth.words _ c.well_formed.1.1.1.0.1.1.1.1.0.1.1.0.1.1));
      d = refl;
    }

pub fill_four_blocks-requires : goal.fill_four_blocks-requires
fill_four_blocks-requires c =
    let r = c.args.run in
    let begins = begins_of r c.args.next in
    let l = c.loop-v in
    let at = of_run l.at0 l.at1 l.at2 l.at3 in
    let e = c.min.ensures in
    let h = c.loop-v-test.true in (
      omega (arith, e, h),
      omega (arith, e),
      shared_blocks begins at r.step l.v l.invariant.at c.requires.0,
      λ q. block_clear (begins q) r.step (at q) l.v (l.invariant.at q) c.min.result r.len (omega (arith, e, h)) (rw l.auto.d (c.requires.2 q)),
    )

pub loop-v-preserved : goal.loop-v-preserved
loop-v-preserved c =
    let x = c.args.x.now in
    let r = c.args.run in
    let next = c.args.next in
    let l = c.loop-v in
    let e = c.min.ensures in
    record {
      within = omega arith;
      at = by_runs (λ (to from : Offsets). words_in to ≡ steps from r.step (l.v + 64))
          (leapt r.from r.step l.at0 l.v 64 (l.invariant.at 0) c.times-leap.ensures c.plus-at0.ensures)
          (leapt next.second r.step l.at1 l.v 64 (l.invariant.at 1) c.times-leap.ensures c.plus-at1.ensures)
          (leapt next.third r.step l.at2 l.v 64 (l.invariant.at 2) c.times-leap.ensures c.plus-at2.ensures)
          (leapt next.fourth r.step l.at3 l.v 64 (l.invariant.at 3) c.times-leap.ensures c.plus-at3.ensures);
      d = four_turn (begins_of r next) (of_run l.at0 l.at1 l.at2 l.at3) r.step l.v l.invariant.at (is_some x.c) x.alpha x.beta (over c.args.depth.now.walk)
          x.a.now x.b.now (words_of x.c) c.min.result (fewer (omega (arith, e)) c.requires.1) c.args.d.now (omega (arith, e)) l.invariant.d c.fill_four_blocks.ensures;
    }

pub returns-2 : goal.returns-2
returns-2 c =
    let x = c.args.x.now in
    let r = c.args.run in
    let l = c.loop-v in
    let e = c.min.ensures in
    four_turn (begins_of r c.args.next) (of_run l.at0 l.at1 l.at2 l.at3) r.step l.v l.invariant.at (is_some x.c) x.alpha x.beta (over c.args.depth.now.walk)
    x.a.now x.b.now (words_of x.c) c.min.result (fewer (omega (arith, e)) c.requires.1) c.args.d.now (omega (arith, e)) l.invariant.d c.fill_four_blocks.ensures
