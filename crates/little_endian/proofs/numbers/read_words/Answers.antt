-- `read_words` meets its contract. The loop's invariant: the first i places hold the first i numbers, and the rest is as it was.
use borrow.Author.Rules.{rules}
use Rattle.words.proofs.Filled.{filled_none, filled_more, filled_all}
use Rattle.little_endian.specs.Bytes.{numbers}
use Rattle.little_endian.proofs.numbers.read_words.Goals as goal

pub loop-i-init : goal.loop-i-init
loop-i-init c = filled_none _ _

pub loop-i-preserved : goal.loop-i-preserved
loop-i-preserved c = filled_more _ _ c.loop-i.invariant (search rules) c.four_bytes.ensures

pub returns : goal.returns
unfolding numbers
returns c = filled_all _ _ c.loop-i.invariant (search rules)
