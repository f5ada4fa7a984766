-- What the 28 words of a layout say.
-- Assumes nothing.
use Rattle.std.specs.Prelude.{ℕ, ◌≡◌, List, [], ◌∷◌, ◌++◌, pos, negsuc}
use Rattle.layout.specs.Layout.{layout_of}
use Rattle.contraction.specs.Operands.{contraction_of, contraction_with_c}
use Rattle.flat.specs.FlatLayout.{flat_layout, flat_contraction, flat_contraction_with_c}

-- i and k are 105 and 107; 255 is the last letter that is read as it is, and 361 is 256 + 105
abbrev pub eight_letters : List ℕ
eight_letters = 105 ∷ 107 ∷ 255 ∷ 256 ∷ 361 ∷ 4294967295 ∷ 0 ∷ 65 ∷ []

abbrev pub eight_extents : List ℕ
eight_extents = 2 ∷ 3 ∷ 0 ∷ 5 ∷ 65536 ∷ 65537 ∷ 4294967295 ∷ 9 ∷ []

abbrev pub eight_strides : List ℕ
eight_strides = 1 ∷ 4294967294 ∷ 2147483647 ∷ 2147483648 ∷ 4294967295 ∷ 0 ∷ 7 ∷ 8 ∷ []

-- these words with how many letters, extents and strides there are, and the base
abbrev pub said : ℕ → ℕ → ℕ → ℕ → List ℕ
said letters extents strides base = eight_letters ++ eight_extents ++ eight_strides ++ letters ∷ extents ∷ strides ∷ base ∷ []

pub record FlatLayoutCases : Type 0 where
  -- a letter above 255 is letter 0; a stride is two's complement
  pub eight_axes : flat_layout (said 8 8 8 0)
      ≡ layout_of (105 ∷ 107 ∷ 255 ∷ 0 ∷ 0 ∷ 0 ∷ 0 ∷ 65 ∷ []) eight_extents
      (pos 1 ∷ negsuc 1 ∷ pos 2147483647 ∷ negsuc 2147483647 ∷ negsuc 0 ∷ pos 0 ∷ pos 7 ∷ pos 8 ∷ []) 0
  -- words past a count mean nothing
  pub two_axes : flat_layout (said 2 2 2 5) ≡ layout_of (105 ∷ 107 ∷ []) (2 ∷ 3 ∷ []) (pos 1 ∷ negsuc 1 ∷ []) 5
  pub no_axes : flat_layout (said 0 0 0 4294967295) ≡ layout_of [] [] [] 4294967295
  -- 24 counts the letters, 25 the extents, 26 the strides
  pub counts_apart : flat_layout (said 1 2 3 0) ≡ layout_of (105 ∷ []) (2 ∷ 3 ∷ []) (pos 1 ∷ negsuc 1 ∷ pos 2147483647 ∷ []) 0
  -- a ninth letter is counted
  pub ninth_letter : (flat_layout (said 9 0 0 0)).letter_count ≡ 9
  -- A's, B's and D's, then alpha and beta
  pub tensors : flat_contraction (said 0 0 0 1) (said 0 0 0 2) (said 0 0 0 3) 4 5
      ≡ contraction_of (layout_of [] [] [] 1) (layout_of [] [] [] 2) (layout_of [] [] [] 3) 4 5
  -- C's between B's and D's
  pub tensors_with_c : flat_contraction_with_c (said 0 0 0 1) (said 0 0 0 2) (said 0 0 0 3) (said 0 0 0 4) 5 6
      ≡ contraction_with_c (layout_of [] [] [] 1) (layout_of [] [] [] 2) (layout_of [] [] [] 3) (layout_of [] [] [] 4) 5 6
