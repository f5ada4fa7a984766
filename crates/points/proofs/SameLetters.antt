-- Question 30 by the letter sets: a set has a letter just where the axes do. What has the same letters has them as itself.
-- Assumes nothing.
use mathlib.Core.Path.{◌≡◌, ◌∙◌}
use mathlib.Core.Bool.{true}
use mathlib.Core.List.{List}
use Rattle.words.specs.Sums.{every}
use Rattle.words.specs.Lists.{member}
use Rattle.words.proofs.Lists.{T_true, all_imp, covers, member_once}
use Rattle.words.proofs.Sums.{every_all, all_every, every_same}
use Rattle.layout.specs.declared.layout.Axis.{Axis}
use Rattle.layout.specs.Layout.{letters_of}
use Rattle.layout.specs.Listed.{listed}
use Rattle.validity.specs.Letters.{is_letter}
use Rattle.validity.specs.TensorQuestions.{letters_valid}
use Rattle.labels.specs.declared.labelled.Labelled.{Labelled}
use Rattle.labels.specs.Labels.{labels}
use Rattle.labels.specs.LetterSets.{has}
use Rattle.points.specs.LabelQuestions.{letters_among, letters_same}

pub among_set : (x y : Labelled) → every (λ a. has y.letters.set a.letter) (listed x.axes) ≡ letters_among (listed x.axes) (listed y.axes)
unfolding labels letters_valid
among_set x y =
    every_same (λ a. has y.letters.set a.letter) (λ a. member a.letter (letters_of (listed y.axes))) (listed x.axes)
    (all_imp (λ a v. y.lettered.spells.sets a.letter (T_true (is_letter a.letter) v) ∙ member_once a.letter (letters_of (listed y.axes))) (listed x.axes)
    (every_all (λ a. is_letter a.letter) (listed x.axes) x.lettered.checked.letters))

pub same_itself : (xs : List Axis) → letters_same xs xs ≡ true
unfolding letters_same
same_itself xs = let e = T_true (letters_among xs xs) (all_every (λ a. member a.letter (letters_of xs)) xs (all_imp (λ a e. rw e tt) xs (covers (λ (a : Axis). a.letter) xs))) in rw e
