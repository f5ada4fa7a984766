-- `read_bytes` meets its contract. The loop's invariant: the first i places hold the first i numbers, and the rest is as it was.
use mathlib.Core.Path.{◌∙◌}
use borrow.Author.Rules.{rules}
use Rattle.words.proofs.Filled.{filled_none, filled_more, filled_all}
use Rattle.little_endian.specs.Bytes.{numbers}
use Rattle.little_endian.proofs.Little.{byte_at}
use Rattle.little_endian.proofs.numbers.read_bytes.Goals as goal

pub loop-i-init : goal.loop-i-init
loop-i-init c = filled_none _ _

pub loop-i-preserved : goal.loop-i-preserved
loop-i-preserved c =
    let a = c.args in
    let l = c.loop-i in
    filled_more _ _ l.invariant (search rules) (c.from.ensures ∙ byte_at a.file.now a.at l.i)

pub returns : goal.returns
unfolding numbers
returns c = filled_all _ _ c.loop-i.invariant (search rules)
