-- The numbers of questions 5 to 9 and 30 and their order: each row fails a question and the next one too, and the first of the two answers. Before them
-- stands which tensors are asked.
-- Assumes nothing.
use Rattle.std.specs.Prelude.{ℕ, ◌≡◌, List, [], ◌∷◌, ℤ, pos}
use Rattle.words.specs.Texts.{codes}
use Rattle.layout.specs.declared.layout.Layout.{Layout}
use Rattle.layout.specs.Layout.{layout_of}
use Rattle.contraction.specs.Operands.{four, three}
use Rattle.tensor_answers.specs.Asking.{refusal}
use Rattle.questions.specs.Questions.{layout_questions}

-- no letters: one entry, at the base
abbrev pub scalar : Layout
scalar = layout_of [] [] [] 0

-- the answer where A has this layout and a slice of n words, where B has, and where D has
abbrev of_a : Layout → ℕ → ℕ
of_a l n = refusal (layout_questions (three l scalar scalar) (three n 1 1))

abbrev of_b : Layout → ℕ → ℕ
of_b l n = refusal (layout_questions (three scalar l scalar) (three 1 n 1))

abbrev of_d : Layout → ℕ → ℕ
of_d l n = refusal (layout_questions (three scalar scalar l) (three 1 1 n))

abbrev of_each : Layout → ℕ → List ℕ
of_each l n = of_a l n ∷ of_b l n ∷ of_d l n ∷ []

-- the answer where C is named and has the layout c and a slice of n words, and A and D have those layouts and slices of two words
abbrev with_c : Layout → Layout → ℕ → Layout → ℕ
with_c a c n d = refusal (layout_questions (four a scalar c d) (four 2 1 n 2))

-- a vector of two entries; with another extent; with a stride of its own
abbrev vector : Layout
vector = layout_of (codes "i") (2 ∷ []) (pos 1 ∷ []) 0

abbrev longer : Layout
longer = layout_of (codes "i") (3 ∷ []) (pos 0 ∷ []) 0

abbrev stepping : ℤ → Layout
stepping s = layout_of (codes "i") (2 ∷ []) (s ∷ []) 0

-- two strides of 1, and one of 0
abbrev ones : List ℤ
ones = pos 1 ∷ pos 1 ∷ []

-- too many points
abbrev large : Layout
large = layout_of (codes "ij") (32768 ∷ 32769 ∷ []) ones 0

abbrev still : List ℤ
still = pos 0 ∷ []

pub record QuestionCases : Type 0 where
  pub accepted : of_a (layout_of (codes "ij") (2 ∷ 3 ∷ []) ones 0) 4 ≡ 0
  -- 1 to 5 and 8 are put to A, to B and to D: a digit as a letter, and a slice without words
  pub each_3 : of_each (layout_of (codes "1") (1 ∷ []) still 0) 1 ≡ 3 ∷ 3 ∷ 3 ∷ []
  pub each_8 : of_each (layout_of (codes "i") (1 ∷ []) still 0) 0 ≡ 8 ∷ 8 ∷ 8 ∷ []
  -- a tensor with an extent 0 "passes 8 whatever its slice, and as D passes 9", with its base outside and no words; 5 is asked of it, and 8 of the others
  pub none_8 : of_each (layout_of (codes "ij") (0 ∷ 2 ∷ []) (pos 1 ∷ still) 5) 0 ≡ 0 ∷ 0 ∷ 0 ∷ []
  pub none_5 : of_each (layout_of (codes "i") (0 ∷ []) still 16777217) 0 ≡ 5 ∷ 5 ∷ 5 ∷ []
  pub beside_8 : refusal (layout_questions (three (layout_of (codes "i") (0 ∷ []) still 0) scalar scalar) (three 0 0 1)) ≡ 8
  pub base_5 : of_a (layout_of (codes "ii") (2 ∷ 3 ∷ []) ones 16777217) 1 ≡ 5  -- a base too large, two extents of one letter
  pub agree_6 : of_a (layout_of (codes "iij") (32768 ∷ 3 ∷ 65536 ∷ []) (pos 0 ∷ ones) 0) 1 ≡ 6  -- two extents of one letter, too many points
  pub points_7 : of_a large 1 ≡ 7  -- too many points, entries outside
  pub inside_8 : of_d (layout_of (codes "i") (2 ∷ []) still 0) 0 ≡ 8  -- entries outside, one word for two entries of D
  pub apart_9 : of_d (layout_of (codes "i") (2 ∷ []) still 0) 1 ≡ 9  -- one word for two entries of D
  -- "C has to pass questions 1 to 6 and 8", not 9: one word for all entries of C
  pub c_named : with_c vector (stepping (pos 0)) 1 vector ≡ 0
  pub c_3 : with_c vector (layout_of (codes "1") (1 ∷ []) still 0) 2 vector ≡ 3
  pub c_8 : with_c vector vector 1 vector ≡ 8
  -- "Number 30, asked right after question 6, means that C's different letters are not exactly D's"
  pub c_6 : with_c vector longer 1 scalar ≡ 6  -- two extents of one letter, no letter in D
  pub c_30 : with_c large scalar 1 (layout_of (codes "i") (32768 ∷ []) still 0) ≡ 30  -- D's letter missing, too many points
  pub c_30_not_a : with_c vector vector 2 scalar ≡ 30  -- A's letter
