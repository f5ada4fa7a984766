-- `axis_at` meets its contract: of a list of letters or strides that are mapped, the place i is what is mapped at i.
-- Assumes nothing.
use mathlib.Core.Path.{◌≡◌, sym, ap, ◌∙◌}
use mir.Syntax.{w32}
use mir.ValLaws.{to_z-of_z}
use lib.ListN.{get_or-map}
use Rattle.words.specs.Words.{signed}
use Rattle.flat.specs.FlatLayout.{letter_in, counted, axis_at}
use Rattle.flat.proofs.layout_words.axis_at.Goals as goal

pub returns : goal.returns
returns c =
    let i = c.args.i in
    let words = c.args.words.now in
    let letter : c.letter_of.result ≡ (axis_at words i).letter =
    c.letter_of.ensures ∙ ap letter_in c.word_at.ensures ∙ sym (get_or-map letter_in (counted words 0 24) i 0) in
    let stride : c.signed.result ≡ (axis_at words i).stride =
    c.signed.ensures ∙ ap (signed 32) c.word_at-3.ensures ∙ sym (get_or-map (signed 32) (counted words 16 26) i 0) in
    rw (to_z-of_z w32 c.signed.result (record { sfits = c.signed.type_inv }), letter, c.word_at-2.ensures, stride)
