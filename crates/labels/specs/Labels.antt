-- Labels: a letter's extent and its stride. A letter repeated in one tensor is one label, whose stride is the sum of its strides.
-- Assumes nothing.
use Rattle.std.specs.Prelude.{ℕ, cond, List, [], ◌∷◌, ℤ, pos, ◌+ℤ◌, ◌==◌}
use Rattle.words.specs.Lists.{distinct}
use Rattle.layout.specs.declared.layout.Axis.{Axis}
use Rattle.layout.specs.Layout.{letters_of}

-- the sum of the strides of a letter, 0 where it is absent
abbrev pub stride_of : ℕ → List Axis → ℤ
stride_of c [] = pos 0
stride_of c (a ∷ xs) = cond (a.letter == c) a.stride (pos 0) +ℤ stride_of c xs

-- the extent of a letter where it first occurs, 1 where it is absent
abbrev pub extent_of : ℕ → List Axis → ℕ
extent_of c [] = 1
extent_of c (a ∷ xs) = cond (a.letter == c) a.extent (extent_of c xs)

-- the different letters of the axes, in order of first appearance
unfoldable pub labels : List Axis → List ℕ
labels xs = distinct (letters_of xs)
