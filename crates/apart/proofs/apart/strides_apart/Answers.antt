-- `strides_apart` meets its contract: the test is made at every label.
-- Assumes nothing.
use Rattle.std.proofs.Common.{◌∙◌, rules}
use borrow.Author.Tests.{tests}
use Rattle.words.proofs.Closures.{slice_all}
use Rattle.entries.specs.EntryQuestions.{strides_apart}
use Rattle.apart.proofs.apart.strides_apart.Goals as goal

pub returns : goal.returns
unfolding strides_apart
returns c = slice_all _ c.all.ensures.ran (c.iter.ensures.rest ∙ c.as_slice-letters.ensures ∙ c.args.x.now.lettered.spells.spells) (λ x b q k. search (rules, tests))
