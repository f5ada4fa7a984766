-- `Letters::with_axes` meets its contract: a letter that was added in turn is that of the next axis, and in the end all axes were looked at.
-- Assumes nothing.
use Rattle.std.proofs.Common.{◌≡◌, T, length, ap, ◌∙◌, take_all, arith}
use Rattle.layout.proofs.Listed.{length_listed}
use Rattle.validity.specs.TensorQuestions.{letters_valid}
use Rattle.labels.proofs.Spelling.{letter_at, labels_next, spells_itself}
use Rattle.labels.proofs.letter_sets.Letters.with_axes.Goals as goal

pub with-all-requires : goal.with-all-requires
with-all-requires c =
    let l = c.loop-a in
    let axes = c.as_slice-axes.result.now in
    let e = c.as_slice-axes.ensures in
    let n : length axes ≡ c.args.x.count = ap length e ∙ length_listed c.args.x in
    let valid : T (letters_valid axes) = rw e c.requires.1.letters in
    (l.invariant.1, omega arith, letter_at axes l.a-index valid (omega arith))

pub loop-a-preserved : goal.loop-a-preserved
loop-a-preserved c =
    let l = c.loop-a in (
      omega (arith, c.with-all.ensures.1),
      spells_itself c.with-all.result _ c.with-all.ensures.0,
      λ xs s. rw (labels_next xs c.as_slice-axes.result.now l.a-index (omega arith), ← (l.invariant.2 xs s).spells) c.with-all.ensures.0,
    )

pub returns : goal.returns
returns c =
    let l = c.loop-a in
    let axes = c.as_slice-axes.result.now in
    let e = c.as_slice-axes.ensures in
    let n : length axes ≡ c.args.x.count = ap length e ∙ length_listed c.args.x in
    (λ xs s. rw (take_all l.a-index axes (omega arith), e) at (l.invariant.2 xs s), omega arith)
