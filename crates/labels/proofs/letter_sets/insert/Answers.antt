-- `insert` meets its contract: the one that is shifted is the set of the letter alone, and `|` has the letters of both.
use mathlib.Core.Bool.{or_comm}
use Rattle.std.proofs.Common.{◌%◌, ◌^◌, eqb, arith}
use Rattle.labels.specs.LetterSets.{has}
use Rattle.labels.proofs.Bits.{has_or, has_one, shifted}
use Rattle.labels.proofs.letter_sets.insert.Goals as goal

pub returns : goal.returns
returns c d =
    let a = c.args in
    let k = a.c % 64 in
    rw (shifted k (omega arith), has_or a.set (2 ^ k) d, has_one k d) (or_comm (has a.set d) (eqb (d % 64) k))
