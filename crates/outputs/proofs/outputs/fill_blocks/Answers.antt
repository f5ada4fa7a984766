-- `fill_blocks` meets its contract. The invariant: the address words are v steps from the first, and the words of D are those that the first v counts of the run
-- leave. A turn fills a block of the next counts, or the last one those that are left.
-- Assumes nothing.
use Rattle.std.proofs.Common.{refl, arith}
use Rattle.words.specs.Loops.{each}
use Rattle.offsets.proofs.OwnedWords.{words_fit}
use Rattle.sums.specs.Walk.{over}
use Rattle.output_run.specs.FilledOutput.{filled_of}
use Rattle.outputs.proofs.Blocks.{steps_first, leapt, block_clear, block_turn}
use Rattle.outputs.proofs.outputs.fill_blocks.Goals as goal

pub loop-v-init : goal.loop-v-init
unfolding each
loop-v-init c =
    record {
      within = omega arith;
      rest = omega arith;
      at = steps_first c.args.run.from c.args.run.step (words_fit c.args.run.from.words _ c.well_formed.1.1.0.1.1.0.1.1.0.1.1);
      d = refl;
    }

pub fill_block-requires : goal.fill_block-requires
fill_block-requires c =
    let l = c.loop-v in
    let r = c.args.run in
    let e = c.min.ensures in
    let w = c.width_of-width.ensures in (
      omega (arith, e, w.0, l.invariant.rest, c.loop-v-test.true),
      omega (arith, e, w.1),
      block_clear r.from r.step l.at l._v l.invariant.at c.min.result r.len (omega (arith, e, l.invariant.rest, c.loop-v-test.true)) (rw l.auto.d c.requires),
    )

pub loop-v-preserved : goal.loop-v-preserved
loop-v-preserved c =
    let x = c.args.x.now in
    let r = c.args.run in
    let l = c.loop-v in
    record {
      within = omega arith;
      rest = omega (arith, c.min.ensures, l.invariant.rest);
      at = leapt r.from r.step l.at l._v c.width_of-width.result l.invariant.at c.times-leap.ensures c.plus-at.ensures;
      d = block_turn r.from r.step l.at l._v l.invariant.at (filled_of x (over c.args.depth.now.walk)) c.min.result c.args.d.now
          (omega (arith, c.min.ensures, l.invariant.rest)) l.invariant.d c.fill_block.ensures;
    }

pub returns-2 : goal.returns-2
returns-2 c =
    let x = c.args.x.now in
    let r = c.args.run in
    let l = c.loop-v in
    block_turn r.from r.step l.at l._v l.invariant.at (filled_of x (over c.args.depth.now.walk)) c.min.result c.args.d.now
    (omega (arith, c.min.ensures, l.invariant.rest)) l.invariant.d c.fill_block.ensures
