-- Questions 1 to 5, about one tensor by itself: its layout, and the length of its slice. Each is a test that passes or fails.
-- Assumes nothing.
use Rattle.std.specs.Prelude.{ℕ, Bool, ◌&&◌, List, nat_abs, eqb, leb}
use Rattle.words.specs.Sums.{every}
use Rattle.limits.specs.Limits.{rank_limit, extent_limit, stride_limit, base_limit, slice_limit}
use Rattle.layout.specs.declared.layout.Axis.{Axis}
use Rattle.layout.specs.declared.layout.Layout.{Layout}
use Rattle.layout.specs.Layout.{axes}
use Rattle.validity.specs.Letters.{is_letter}

-- question 1: has the tensor at most 8 letters?
unfoldable pub rank_fits : Layout → Bool
rank_fits l = leb l.letter_count rank_limit

-- question 2: are there as many extents and as many strides as letters?
unfoldable pub counts_match : Layout → Bool
counts_match l = eqb l.extent_count l.letter_count && eqb l.stride_count l.letter_count

-- question 3: is every letter A to Z or a to z?
unfoldable pub letters_valid : List Axis → Bool
letters_valid xs = every (λ a. is_letter a.letter) xs

-- question 4: is every extent 0 to 65,536?
unfoldable pub extents_valid : List Axis → Bool
extents_valid xs = every (λ a. leb a.extent extent_limit) xs

-- question 5: is every stride from -16,777,216 to 16,777,216, the base at most 16,777,216, the slice at most 16,777,216 words?
unfoldable pub strides_valid : List Axis → Bool
strides_valid xs = every (λ a. leb (nat_abs a.stride) stride_limit) xs

unfoldable pub sizes_valid : Layout → ℕ → Bool
sizes_valid l n = strides_valid (axes l) && (leb l.base base_limit && leb n slice_limit)
