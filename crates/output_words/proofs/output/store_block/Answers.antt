-- `store_block` meets its contract. The invariant: the address words are r steps from the first, and the words of D are those that r turns
-- leave.
-- Assumes nothing.
use Rattle.std.proofs.Common.{refl, length-set, is_some}
use Rattle.words.specs.Loops.{each}
use Rattle.words.specs.Stepped.{stepped}
use Rattle.words.proofs.Modular.{step_none, step_more}
use Rattle.words.proofs.Store.{put_next}
use Rattle.output_words.specs.StartWords.{words_of}
use Rattle.output_words.proofs.output.store_block.Invariants.{made}
use Rattle.output_words.proofs.output.store_block.Goals as goal

pub loop-r-init : goal.loop-r-init
unfolding each
loop-r-init c =
    (refl, step_none c.args.step_c c.ranges.from_c.fits, step_none c.args.step_d c.ranges.from_d.fits, refl)

pub loop-r-preserved : goal.loop-r-preserved
loop-r-preserved c =
    let s = c.args in
    let l = c.loop-r in (
      simp length-set l.invariant.0,
      step_more s.from_c s.step_c l.r l.invariant.1 refl,
      step_more s.from_d s.step_d l.r l.invariant.2 refl,
      put_next (made (is_some s.x.now.c) s.x.now.alpha s.x.now.beta s.sums.now (words_of s.x.now.c) (stepped s.from_c s.step_c)) (stepped s.from_d s.step_d) s.d.now l.r
          l.invariant.3 l.invariant.2 (rw (c.combine.ensures, c.start_of-start.ensures, l.invariant.1)),
    )
