-- `Asked::left_by` meets its contract: where questions 1 and 3 to 5 pass, the axes have letters.
-- Assumes nothing.
use mathlib.Core.Bool.{◌&&◌}
use native.Mathlib.Omega.{arith}
use borrow.Author.Tests.{leb-true}
use lib.Dec.{leb}
use Rattle.words.proofs.Sums.{and_split}
use Rattle.limits.specs.Limits.{rank_limit, base_limit, slice_limit}
use Rattle.layout.specs.Layout.{axes}
use Rattle.validity.specs.TensorQuestions.{rank_fits, strides_valid, sizes_valid}
use Rattle.tensor_answers.proofs.OwnPassed.{own_passed}
use Rattle.tensor_answers.proofs.tensor_answers.Asked.left_by.Goals as goal

pub of-lists-requires : goal.of-lists-requires
unfolding rank_fits sizes_valid
of-lists-requires c =
    let l = c.args.l.now in
    let e = c.of-axes.ensures.0 in
    let p = own_passed l c.args.length c.requires in
    record {
      few = omega (arith, c.of-axes.ensures.1, leb-true l.letter_count rank_limit p.rank);
      letters = rw (e, p.letters) tt;
      extents = rw (e, p.extents) tt;
      strides = rw e (and_split (strides_valid (axes l)) (leb l.base base_limit && leb c.args.length slice_limit) (rw p.sizes tt)).0;
    }
