-- Questions 1 to 5 on both sides of their limits.
-- Assumes nothing.
use Rattle.std.specs.Prelude.{ℕ, ◌≡◌, true, false, List, [], ◌∷◌, map, ℤ, pos, negsuc}
use Rattle.words.specs.Texts.{codes}
use Rattle.layout.specs.declared.layout.Axis.{Axis}
use Rattle.layout.specs.declared.layout.Layout.{Layout}
use Rattle.validity.specs.TensorQuestions.{rank_fits, counts_match, letters_valid, extents_valid, strides_valid, sizes_valid}

-- a layout of that many letters, extents and strides; axes of those letters; an axis of that extent and stride
abbrev given : ℕ → ℕ → ℕ → Layout
given letters extents strides = record { axes = []; letter_count = letters; extent_count = extents; stride_count = strides; base = 0 }

abbrev named : List ℕ → List Axis
named cs = map (λ c. record { letter = c; extent = 1; stride = pos 1 }) cs

abbrev axis : ℕ → ℤ → List Axis
axis extent stride = record { letter = 105; extent = extent; stride = stride } ∷ []

-- a layout without letters that has that base
abbrev based : ℕ → Layout
based base = record { axes = []; letter_count = 0; extent_count = 0; stride_count = 0; base = base }

pub record TensorCases : Type 0 where
  -- "Has each tensor at most 8 letters? 1"
  pub eight_letters_fit : rank_fits (given 8 8 8) ≡ true
  pub nine_letters : rank_fits (given 9 9 9) ≡ false
  -- "Are there as many extents and as many strides as letters? 2"
  pub as_many : counts_match (given 2 2 2) ≡ true
  pub fewer_extents : counts_match (given 2 1 2) ≡ false
  pub fewer_strides : counts_match (given 2 2 1) ≡ false
  pub more_of_both : counts_match (given 2 3 3) ≡ false
  -- "Is every letter A to Z or a to z? 3": the letters at the four ends, and the characters beside them
  pub letters : letters_valid (named (codes "AZaz")) ≡ true
  pub before_A : letters_valid (named (codes "@")) ≡ false
  pub after_Z : letters_valid (named (codes "[")) ≡ false
  pub before_a : letters_valid (named (codes "`")) ≡ false
  pub after_z : letters_valid (named (codes "a{")) ≡ false
  -- "Extents become 0 to 65,536 and question 4 asks that"
  pub extent_0 : extents_valid (axis 0 (pos 1)) ≡ true
  pub extent_65536 : extents_valid (axis 65536 (pos 1)) ≡ true
  pub extent_65537 : extents_valid (axis 65537 (pos 1)) ≡ false
  -- "Is every stride from -16,777,216 to 16,777,216, every base at most 16,777,216, every tensor's slice at most 16,777,216 words? 5"
  pub stride_up : strides_valid (axis 1 (pos 16777216)) ≡ true
  pub stride_down : strides_valid (axis 1 (negsuc 16777215)) ≡ true
  pub too_far_up : strides_valid (axis 1 (pos 16777217)) ≡ false
  pub too_far_down : strides_valid (axis 1 (negsuc 16777216)) ≡ false
  pub largest : sizes_valid (based 16777216) 16777216 ≡ true
  pub base_too_large : sizes_valid (based 16777217) 16777216 ≡ false
  pub slice_too_long : sizes_valid (based 16777216) 16777217 ≡ false
