-- The numbers of questions 1 to 5 and their order: each row fails a question and the next one too, and the first of the two answers.
-- Assumes nothing.
use Rattle.std.specs.Prelude.{ℕ, ◌≡◌, List, [], ◌∷◌, ℤ, pos}
use Rattle.words.specs.Texts.{codes}
use Rattle.layout.specs.declared.layout.Layout.{Layout}
use Rattle.layout.specs.Layout.{layout_of}
use Rattle.tensor_answers.specs.Asking.{refusal}
use Rattle.tensor_answers.specs.OwnQuestions.{tensor_questions}

-- the answer of one tensor with a slice of n words, and that of two with one word each
abbrev of : Layout → ℕ → ℕ
of l n = refusal (tensor_questions (record { layout = l; words = n } ∷ []))

abbrev both : Layout → Layout → ℕ
both a b = refusal (tensor_questions (record { layout = a; words = 1 } ∷ record { layout = b; words = 1 } ∷ []))

-- one stride, of 0
abbrev still : List ℤ
still = pos 0 ∷ []

pub record OwnQuestionCases : Type 0 where
  pub rank_1 : of (layout_of (codes "abcdefghi") [] [] 0) 1 ≡ 1  -- nine letters, no extents
  pub counts_2 : of (layout_of (codes "1") (1 ∷ []) [] 0) 1 ≡ 2  -- no stride, a digit as a letter
  pub letter_3 : of (layout_of (codes "1") (65537 ∷ []) still 0) 1 ≡ 3  -- a digit as a letter, extent 65,537
  -- "Asked in this order": a question is put to all tensors before the next one. Extent 65,537 in A, a digit as a letter in B
  pub across_tensors : both (layout_of (codes "i") (65537 ∷ []) still 0) (layout_of (codes "1") (1 ∷ []) still 0) ≡ 3
  pub extent_4 : of (layout_of (codes "i") (65537 ∷ []) still 16777217) 1 ≡ 4  -- extent 65,537, a base too large
