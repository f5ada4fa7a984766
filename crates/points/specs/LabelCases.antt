-- Questions 6, 30 and 7 on both sides.
-- Assumes nothing.
use Rattle.std.specs.Prelude.{ℕ, ◌≡◌, true, false, [], ◌∷◌, pos}
use Rattle.layout.specs.declared.layout.Axis.{Axis}
use Rattle.points.specs.LabelQuestions.{extents_agree, letters_same, points_fit}

-- an axis of the letter `i`, `j` or `k`
abbrev i : ℕ → Axis
i extent = record { letter = 105; extent = extent; stride = pos 1 }

abbrev j : ℕ → Axis
j extent = record { letter = 106; extent = extent; stride = pos 1 }

abbrev k : ℕ → Axis
k extent = record { letter = 107; extent = extent; stride = pos 1 }

pub record LabelCases : Type 0 where
  -- "Has a letter the same extent wherever it occurs? 6"
  pub same_extent : extents_agree (i 2 ∷ j 3 ∷ i 2 ∷ []) ≡ true
  pub other_extent : extents_agree (i 2 ∷ j 3 ∷ i 3 ∷ []) ≡ false
  -- "Number 30, asked right after question 6, means that C's different letters are not exactly D's": order and repeats don't matter
  pub same_letters : letters_same (i 2 ∷ j 3 ∷ i 2 ∷ []) (j 3 ∷ i 2 ∷ []) ≡ true
  pub one_missing : letters_same (i 2 ∷ []) (i 2 ∷ j 3 ∷ []) ≡ false
  pub one_more : letters_same (i 2 ∷ j 3 ∷ []) (i 2 ∷ []) ≡ false
  -- "Is the product of the extents of all different labels at most 1,073,741,824? 7": a label counts once
  pub at_the_limit : points_fit (i 32768 ∷ j 32768 ∷ i 32768 ∷ []) ≡ true
  pub above_it : points_fit (i 32768 ∷ j 32769 ∷ []) ≡ false
  -- "in question 7's product an extent 0 counts as 1"
  pub zero_at_the_limit : points_fit (i 32768 ∷ k 0 ∷ j 32768 ∷ []) ≡ true
  pub zero_above_it : points_fit (i 32768 ∷ k 0 ∷ j 32769 ∷ []) ≡ false
