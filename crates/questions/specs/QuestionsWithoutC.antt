-- The questions where C is not named: those of A, B and D, and no other.
-- Assumes nothing.
use Rattle.std.specs.Prelude.{ℕ, ◌≡◌, List, [], ◌∷◌, ◌++◌}
use Rattle.layout.specs.declared.layout.Axis.{Axis}
use Rattle.layout.specs.declared.layout.Layout.{Layout}
use Rattle.layout.specs.Layout.{axes}
use Rattle.points.specs.LabelQuestions.{extents_agree, points_fit}
use Rattle.entries.specs.EntryQuestions.{apart}
use Rattle.contraction.specs.Operands.{three}
use Rattle.tensor_answers.specs.Asking.{Question, ask, refusal}
use Rattle.tensor_answers.specs.OwnQuestions.{Lent, tensor_questions, entries_inside}
use Rattle.questions.specs.Questions.{layout_questions}

module _ (a b d : Layout) (na nb nd : ℕ) where
  abbrev pub three_tensors : List Lent
  three_tensors = record { layout = a; words = na } ∷ record { layout = b; words = nb } ∷ record { layout = d; words = nd } ∷ []

  abbrev pub three_axes : List Axis
  three_axes = axes d ++ (axes a ++ axes b)

  -- 1 to 9
  unfoldable pub three_questions : List Question
  three_questions =
      tensor_questions three_tensors
      ++ (ask 6 (extents_agree three_axes)
      ∷ ask 7 (points_fit three_axes)
      ∷ ask 8 (entries_inside three_tensors)
      ∷ ask 9 (apart (axes d))
      ∷ [])

-- "the form without C behaves as before": D, which stands for C, answers as it did
abbrev pub QuestionsWithoutC : Type 0
QuestionsWithoutC = (a b d : Layout) (na nb nd : ℕ) → refusal (layout_questions (three a b d) (three na nb nd)) ≡ refusal (three_questions a b d na nb nd)
