-- `extents_as` meets its contract: the test is made at every axis.
-- Assumes nothing.
use Rattle.std.proofs.Common.{◌∙◌, rules}
use borrow.Author.Tests.{tests}
use Rattle.words.proofs.Closures.{slice_all}
use Rattle.points.proofs.label_questions.extents_as.Goals as goal

pub returns : goal.returns
returns c = slice_all _ c.all.ensures.ran (c.iter.ensures.rest ∙ c.as_slice-axes.ensures) (λ x b q k. search (rules, tests))
