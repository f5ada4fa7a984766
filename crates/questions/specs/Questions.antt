-- The questions before any work, as one list; each call asks a concatenation of its parts.
-- Assumes nothing.
use Rattle.std.specs.Prelude.{ℕ, List, [], ◌∷◌, ◌++◌, map}
use Rattle.layout.specs.declared.layout.Layout.{Layout}
use Rattle.layout.specs.Layout.{axes}
use Rattle.points.specs.LabelQuestions.{extents_agree, letters_same, points_fit}
use Rattle.entries.specs.EntryQuestions.{apart}
use Rattle.contraction.specs.Operands.{operands, shape, together}
use Rattle.contraction.specs.declared.contraction.Operand.{Operand}
use Rattle.contraction.specs.declared.contraction.Operand.TheVariants.{C, D}
use Rattle.tensor_answers.specs.Asking.{Question, ask}
use Rattle.tensor_answers.specs.OwnQuestions.{Lent, tensor_questions, entries_inside}

module _ (t : Operand → Layout) (n : Operand → ℕ) where
  -- the tensors of a contraction; where C is not named, D stands for it and is asked once more
  abbrev pub lent_tensors : List Lent
  lent_tensors = map (λ o. record { layout = t o; words = n o }) operands

  -- 6, 30 and 7: of the labels of all tensors
  unfoldable pub label_questions : List Question
  label_questions =
      ask 6 (extents_agree (together (shape t)))
      ∷ ask 30 (letters_same (axes (t C)) (axes (t D)))
      ∷ ask 7 (points_fit (together (shape t)))
      ∷ []

  -- 8 and 9: of the entries
  unfoldable pub entry_questions : List Question
  entry_questions =
      ask 8 (entries_inside lent_tensors)
      ∷ ask 9 (apart (axes (t D)))
      ∷ []

  -- 1 to 9, with 30: of the layouts and the slices' lengths
  unfoldable pub layout_questions : List Question
  layout_questions = tensor_questions lent_tensors ++ (label_questions ++ entry_questions)
