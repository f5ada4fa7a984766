-- `read_signed` meets its contract. The loop's invariant: the first i places hold the first i numbers, and the rest is as it was.
use mathlib.Core.Path.{ap, sym, ◌∙◌}
use lib.ListN.{length}
use mir.Syntax.{w32}
use mir.ValLaws.{to_z-of_z}
use borrow.Author.Rules.{rules}
use Rattle.words.specs.Words.{signed}
use Rattle.words.proofs.Filled.{filled_none, filled_more, filled_all}
use Rattle.little_endian.proofs.Little.{map_numbers}
use Rattle.little_endian.proofs.numbers.read_signed.Goals as goal

pub loop-i-init : goal.loop-i-init
loop-i-init c = filled_none _ _

pub loop-i-preserved : goal.loop-i-preserved
loop-i-preserved c =
    let same = to_z-of_z w32 c.signed.result (record { sfits = c.signed.type_inv }) in
    filled_more _ _ c.loop-i.invariant (search rules) (same ∙ c.signed.ensures ∙ ap (signed 32) c.four_bytes.ensures)

pub returns : goal.returns
returns c =
    let a = c.args in
    filled_all _ _ c.loop-i.invariant (search rules) ∙ sym (map_numbers a.file.now (signed 32) 4 (length a.out.now) a.at)
