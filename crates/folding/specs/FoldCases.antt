-- Folding beside the starred case of the rules: labels of extent 1 and 0, and more than two labels.
-- Assumes nothing.
use Rattle.std.specs.Prelude.{ℕ, ◌≡◌, [], ◌∷◌, ℤ, pos}
use Rattle.contraction.specs.Operands.{four, three}
use Rattle.groups.specs.Groups.{Label}
use Rattle.folding.specs.Fold.{fold}

-- a label with its stride in A, in B and in D
abbrev pub lab : ℕ → ℕ → ℤ → ℤ → ℤ → Label
lab c e a b d = record { letter = c; extent = e; stride = three a b d }

-- and in C, between B and D
abbrev lab_c : ℕ → ℕ → ℤ → ℤ → ℤ → ℤ → Label
lab_c l e a b c d = record { letter = l; extent = e; stride = four a b c d }

pub record FoldCases : Type 0 where
  -- "drop labels of extent 1", whatever their strides
  pub dropped : fold (lab 105 1 (pos 7) (pos 7) (pos 7) ∷ lab 106 1 (pos 9) (pos 9) (pos 9) ∷ []) ≡ []
  -- "Then go left to right and join a label to the one before it when, in every tensor, its stride is that one's extent × that one's stride, an absent
  -- label having stride 0. Joined, they keep the first stride, and the extents multiply.": 2 and 3 join to 6, past the label of extent 1, and 6 and 4 to 24
  pub left_to_right :
      fold (lab 105 2 (pos 1) (pos 0) (pos 5) ∷ lab 106 1 (pos 9) (pos 9) (pos 9) ∷ lab 107 3 (pos 2) (pos 0) (pos 10)
      ∷ lab 108 4 (pos 6) (pos 0) (pos 30) ∷ [])
      ≡ lab 105 24 (pos 1) (pos 0) (pos 5) ∷ []
  -- only with the one before: the first and the last would join
  pub neighbours :
      fold (lab 105 2 (pos 1) (pos 1) (pos 1) ∷ lab 106 3 (pos 7) (pos 7) (pos 7) ∷ lab 107 4 (pos 2) (pos 2) (pos 2) ∷ [])
      ≡ lab 105 2 (pos 1) (pos 1) (pos 1) ∷ lab 106 3 (pos 7) (pos 7) (pos 7) ∷ lab 107 4 (pos 2) (pos 2) (pos 2) ∷ []
  -- a label of extent 0 stays, and a label with no stride joins it
  pub zero_stays :
      fold (lab 105 2 (pos 1) (pos 1) (pos 1) ∷ lab 106 0 (pos 7) (pos 7) (pos 7) ∷ [])
      ≡ lab 105 2 (pos 1) (pos 1) (pos 1) ∷ lab 106 0 (pos 7) (pos 7) (pos 7) ∷ []
  pub zero_joined : fold (lab 105 0 (pos 1) (pos 2) (pos 3) ∷ lab 106 4 (pos 0) (pos 0) (pos 0) ∷ []) ≡ lab 105 0 (pos 1) (pos 2) (pos 3) ∷ []
  -- C is one of the tensors, also where it is not named and has D's strides
  pub c_follows :
      fold (lab_c 105 2 (pos 1) (pos 0) (pos 4) (pos 1) ∷ lab_c 106 3 (pos 2) (pos 0) (pos 8) (pos 2) ∷ [])
      ≡ lab_c 105 6 (pos 1) (pos 0) (pos 4) (pos 1) ∷ []
  pub c_steps_out :
      fold (lab_c 105 2 (pos 1) (pos 0) (pos 4) (pos 1) ∷ lab_c 106 3 (pos 2) (pos 0) (pos 9) (pos 2) ∷ [])
      ≡ lab_c 105 2 (pos 1) (pos 0) (pos 4) (pos 1) ∷ lab_c 106 3 (pos 2) (pos 0) (pos 9) (pos 2) ∷ []
