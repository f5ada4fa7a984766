-- `Letters::as_slice` meets its contract: the front of the array, which has room for them.
-- Assumes nothing.
use Rattle.std.proofs.Common.{arith}
use Rattle.words.proofs.Tabulate.{first_of_take}
use Rattle.labels.specs.LetterSets.{spelled}
use Rattle.labels.proofs.letter_sets.Letters.as_slice.Goals as goal

pub returns : goal.returns
unfolding spelled
returns c = first_of_take 0 c.args.self.now.letters c.args.self.now.count (omega arith)
