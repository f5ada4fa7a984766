-- `has_entries` meets its contract: the test is made at every label.
-- Assumes nothing.
use Rattle.std.proofs.Common.{◌∙◌, rules}
use borrow.Author.Tests.{tests}
use Rattle.words.proofs.Closures.{slice_all}
use Rattle.entries.specs.EntryQuestions.{has_entries}
use Rattle.entries.proofs.inside.has_entries.Goals as goal

pub returns : goal.returns
unfolding has_entries
returns c = slice_all _ c.all.ensures.ran (c.iter.ensures.rest ∙ c.as_slice-letters.ensures ∙ c.args.x.now.lettered.spells.spells) (λ x b q k. search (rules, tests))
