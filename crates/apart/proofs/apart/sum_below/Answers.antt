-- `sum_below` meets its contract: the sum with one label more fits, and in the end all labels were counted.
-- Assumes nothing.
use Rattle.std.proofs.Common.{◌≡◌, length, take_all, ap, ◌∙◌, arith}
use Rattle.std.proofs.lemmas.List.{take_more}
use Rattle.words.proofs.Sums.{sum_of_behind}
use Rattle.labels.proofs.Spelling.{length_spelled}
use Rattle.entries.specs.EntryQuestions.{below}
use Rattle.apart.proofs.apart.sum_below.Goals as goal

pub overflow_add-sum : goal.overflow_add-sum
overflow_add-sum c =
    let n : length c.as_slice-letters.result.now ≡ c.args.x.now.letters.count = ap length c.as_slice-letters.ensures ∙ length_spelled c.args.x.now.letters in
    omega (arith, c.share-sum.ensures.1, c.args.x.now.lettered.few)

pub loop-d-preserved : goal.loop-d-preserved
loop-d-preserved c =
    let l = c.loop-d in
    let letters = c.as_slice-letters.result.now in (
      rw (take_more letters l.d-index 0 (omega arith), sum_of_behind, c.share-sum.ensures.0, c.from.ensures, l.invariant.0),
      omega (arith, c.share-sum.ensures.1),
    )

pub returns : goal.returns
unfolding below
returns c = rw (c.loop-d.invariant.0, take_all c.loop-d.d-index c.as_slice-letters.result.now (omega arith), c.as_slice-letters.ensures, c.args.x.now.lettered.spells.spells)
