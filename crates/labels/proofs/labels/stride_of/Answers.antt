-- `stride_of` meets its contract: the sum with one axis more is the word of the strides of one axis more.
-- Assumes nothing.
use Rattle.std.proofs.Common.{◌≡◌, T, length, ap, ◌∙◌, arith}
use Rattle.words.specs.Words.{word_of}
use Rattle.layout.proofs.Listed.{length_listed}
use Rattle.validity.specs.TensorQuestions.{strides_valid}
use Rattle.labels.proofs.StrideSums.{sum_next, sum_other}
use Rattle.labels.proofs.labels.stride_of.Goals as goal
use Rattle.labels.proofs.labels.stride_of.Goals.{then-a-c, else-a-c}

pub loop-a-preserved : goal.loop-a-preserved
loop-a-preserved c =
    let l = c.loop-a in
    let axes = c.as_slice-axes.result.now in
    let e = c.as_slice-axes.ensures in
    let n : length axes ≡ c.args.x.count = ap length e ∙ length_listed c.args.x in
    let valid : T (strides_valid axes) = rw e c.requires.strides in
    elim c.if-a-c.branch [
      | then-a-c w ↦ w.sum-is ∙ sum_next axes valid (omega (arith, c.requires.few)) c.args.c l.a-index (omega arith) _ _ l.invariant w.address_word-sum.ensures w.if-a-c.true
      | else-a-c w ↦ w.sum-is ∙ l.invariant ∙ ap (word_of 64) (sum_other axes valid (omega (arith, c.requires.few)) c.args.c l.a-index (omega arith) w.if-a-c.false)
    ]
