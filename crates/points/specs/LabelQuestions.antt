-- Questions 6, 30 and 7, about the labels of all tensors together. Each is a test that passes or fails.
-- Assumes nothing.
use Rattle.std.specs.Prelude.{ℕ, max, Bool, ◌&&◌, List, eqb, leb}
use Rattle.words.specs.Sums.{product, every}
use Rattle.words.specs.Lists.{member}
use Rattle.limits.specs.Limits.{product_limit}
use Rattle.layout.specs.declared.layout.Axis.{Axis}
use Rattle.layout.specs.Layout.{letters_of}
use Rattle.labels.specs.Labels.{extent_of, labels}

-- question 6, of the axes of all tensors: has a letter the same extent wherever it occurs?
unfoldable pub extents_agree : List Axis → Bool
extents_agree xs = every (λ a. eqb a.extent (extent_of a.letter xs)) xs

-- question 30, of C's axes and D's: are C's different letters exactly D's? Their order and how often each stands don't matter.
abbrev pub letters_among : List Axis → List Axis → Bool
letters_among xs ys = every (λ a. member a.letter (letters_of ys)) xs

unfoldable pub letters_same : List Axis → List Axis → Bool
letters_same xs ys = letters_among xs ys && letters_among ys xs

-- question 7, of the axes of all tensors: is the product of the extents of all different labels at most 1,073,741,824? An extent 0 counts as 1.
unfoldable pub points : List Axis → ℕ
points xs = product (λ c. max 1 (extent_of c xs)) (labels xs)

unfoldable pub points_fit : List Axis → Bool
points_fit xs = leb (points xs) product_limit
