-- The questions that a tensor answers for itself: 1 to 5, and 8.
-- Assumes nothing.
use Rattle.std.specs.Prelude.{ℕ, Bool, List, [], ◌∷◌}
use Rattle.words.specs.Sums.{every}
use Rattle.layout.specs.declared.layout.Layout.{Layout}
use Rattle.layout.specs.Layout.{axes}
use Rattle.validity.specs.TensorQuestions.{rank_fits, counts_match, letters_valid, extents_valid, sizes_valid}
use Rattle.entries.specs.EntryQuestions.{inside}
use Rattle.tensor_answers.specs.Asking.{Question, ask}

-- a tensor as it is lent: its layout, and how many words its slice has
pub record Lent : Type 0 where
  pub layout : Layout
  pub words : ℕ

-- 1 to 5: of each tensor by itself; a question that is put to several tensors passes where each passes
unfoldable pub tensor_questions : List Lent → List Question
tensor_questions xs =
    ask 1 (every (λ x. rank_fits x.layout) xs)
    ∷ ask 2 (every (λ x. counts_match x.layout) xs)
    ∷ ask 3 (every (λ x. letters_valid (axes x.layout)) xs)
    ∷ ask 4 (every (λ x. extents_valid (axes x.layout)) xs)
    ∷ ask 5 (every (λ x. sizes_valid x.layout x.words) xs)
    ∷ []

-- 8: do the entries of each tensor fall inside its slice?
abbrev pub entries_inside : List Lent → Bool
entries_inside xs = every (λ x. inside (axes x.layout) x.layout.base x.words) xs
