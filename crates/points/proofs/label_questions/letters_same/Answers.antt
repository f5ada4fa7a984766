-- `letters_same` meets its contract: a letter set has just the letters of its axes; where C is not named, its axes are D's.
-- Assumes nothing.
use mathlib.Core.Path.{sym, ◌∙◌}
use Rattle.layout.specs.Listed.{listed}
use Rattle.points.specs.LabelQuestions.{letters_same}
use Rattle.points.proofs.SameLetters.{among_set, same_itself}
use Rattle.points.proofs.label_questions.letters_same.Goals as goal

pub returns-in-Some : goal.returns-in-Some
unfolding letters_same
returns-in-Some c =
    let x = c.args.x.now in
    let l = c.in-Some.c in
    rw (c.in-Some.is, c.letters_in.ensures ∙ among_set l x.d, c.letters_in-in-Some.ensures ∙ among_set x.d l)

pub returns-in-None : goal.returns-in-None
returns-in-None c = rw (c.in-None.is) (sym (same_itself (listed c.args.x.now.d.axes)))
