-- The order in which groups take the letters of the tensors, and what stands for C where it is not named.
-- Assumes nothing.
use Rattle.std.specs.Prelude.{◌≡◌, List, [], ◌∷◌, map, ℕ, pos}
use Rattle.layout.specs.declared.layout.Axis.{Axis}
use Rattle.layout.specs.declared.layout.Layout.{Layout}
use Rattle.layout.specs.Layout.{layout_of, letters_of}
use Rattle.contraction.specs.declared.contraction.Contraction.{Contraction}
use Rattle.contraction.specs.Operands.{operands, four, contraction_of, contraction_with_c, tensors, lengths, together}

-- axes of those letters, of extent 2 and stride 1
abbrev pub lettered : List ℕ → List Axis
lettered cs = map (λ c. record { letter = c; extent = 2; stride = pos 1 }) cs

-- no letters, at a base
abbrev at : ℕ → Layout
at base = layout_of [] [] [] base

-- each tensor's base, and how many words it has, where A, B, C and D have 5, 6, 7 and 8
abbrev bases : Contraction → List ℕ
bases k = map (λ o. (tensors k o).base) operands

abbrev words : Contraction → List ℕ
words k = map (lengths k (record { a = 5; b = 6; c = 7; d = 8 })) operands

pub record OrderCases : Type 0 where
  -- "Batch, row and column labels stand in order of first appearance in D's labels; depth in order of first appearance in A's, then B's."
  pub d_a_b : letters_of (together (four (lettered (1 ∷ 2 ∷ [])) (lettered (3 ∷ [])) (lettered (6 ∷ [])) (lettered (4 ∷ 5 ∷ [])))) ≡ 4 ∷ 5 ∷ 1 ∷ 2 ∷ 3 ∷ 6 ∷ []
  -- "A contraction may name C, with its own layout and strides", "the form without C behaves as before"
  pub without_c : bases (contraction_of (at 1) (at 2) (at 4) 0 0) ≡ 1 ∷ 2 ∷ 4 ∷ 4 ∷ []
  pub with_a_c : bases (contraction_with_c (at 1) (at 2) (at 3) (at 4) 0 0) ≡ 1 ∷ 2 ∷ 3 ∷ 4 ∷ []
  pub words_without_c : words (contraction_of (at 1) (at 2) (at 4) 0 0) ≡ 5 ∷ 6 ∷ 8 ∷ 8 ∷ []
  pub words_with_c : words (contraction_with_c (at 1) (at 2) (at 3) (at 4) 0 0) ≡ 5 ∷ 6 ∷ 7 ∷ 8 ∷ []
