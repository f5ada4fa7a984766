-- `samples_fit` meets its contract: the test is made at every sample.
-- Assumes nothing.
use Rattle.std.proofs.Common.{rules}
use borrow.Author.Tests.{tests}
use Rattle.words.proofs.Closures.{slice_all}
use Rattle.scores.proofs.delay_questions.samples_fit.Goals as goal

pub returns : goal.returns
returns c = slice_all _ c.all.ensures.ran c.iter.ensures.rest (λ x b q k. search (rules, tests))
