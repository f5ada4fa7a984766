-- `own_refusal` meets its contract: the list of axes is looked at where question 1 passes.
-- Assumes nothing.
use mathlib.Core.Path.{sym, ◌∙◌}
use native.Mathlib.Omega.{arith}
use borrow.Author.Tests.{leb-true}
use Rattle.limits.specs.Limits.{rank_limit}
use Rattle.validity.specs.TensorQuestions.{rank_fits}
use Rattle.tensor_answers.proofs.tensor_answers.own_refusal.Goals as goal

pub valid_of-v-requires : goal.valid_of-v-requires
unfolding rank_fits
valid_of-v-requires c =
    omega (arith, c.of-axes.ensures.1, leb-true c.args.l.now.letter_count rank_limit (sym c.rank_fits.ensures ∙ c.in_ok-ask.ensures))
