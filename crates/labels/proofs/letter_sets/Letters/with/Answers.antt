-- `Letters::with` meets its contract: the set has the letter just where the list does, and a letter's bit tells it from all others.
-- Assumes nothing.
use Rattle.std.proofs.Common.{◌≡◌, true, false, eqb, [], ◌∷◌, sym, ◌∙◌, arith}
use mathlib.Core.Bool.{or_comm, or-false}
use Rattle.words.specs.Lists.{member}
use Rattle.words.proofs.Tabulate.{first_of_push}
use Rattle.words.proofs.Lists.{member_append}
use Rattle.labels.specs.LetterSets.{spelled}
use Rattle.labels.proofs.Spelling.{letter_code, same_letter}
use Rattle.labels.proofs.letter_sets.Letters.with.Goals as goal

pub returns-then-has_letter : goal.returns-then-has_letter
returns-then-has_letter c =
    let pre = c.requires in
    let a = c.args in
    let m : member a.c (spelled a.self) ≡ true = sym (pre.0.sets a.c pre.2) ∙ sym c.has_letter.ensures ∙ c.if-has_letter.true in
    (rw m pre.0, omega arith)

pub overflow_cast-letters : goal.overflow_cast-letters
overflow_cast-letters c = omega (arith, letter_code c.args.c c.requires.2)

pub returns : goal.returns
unfolding spelled
returns c =
    let a = c.args in
    let pre = c.requires in
    let cs = spelled a.self in
    let m : member a.c cs ≡ false = sym (pre.0.sets a.c pre.2) ∙ sym c.has_letter.ensures ∙ c.if-has_letter.false in
    rw m (
      record {
        spells = first_of_push 0 a.self.letters a.self.count a.c (omega arith);
        sets =
            λ d h.
            c.insert.ensures d
            ∙ rw (same_letter d a.c h pre.2, pre.0.sets d h, member_append d cs (a.c ∷ []), or-false (eqb d a.c))
            (or_comm (eqb d a.c) (member d cs));
        few = omega arith;
      },
      omega arith,
    )
