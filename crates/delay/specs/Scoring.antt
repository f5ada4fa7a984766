-- The contraction that makes the scores: over X read with two labels, l for the lag and t for the sample, and Y read with t. D has l. All strides are 1, so
-- that X's entry at (l, t) is its word at l + t. Alpha is 1, beta 0.
-- Assumes nothing.
use Rattle.std.specs.Prelude.{ℕ, [], ◌∷◌, pos}
use Rattle.layout.specs.declared.layout.Layout.{Layout}
use Rattle.layout.specs.Layout.{layout_of}
use Rattle.contraction.specs.declared.contraction.Contraction.{Contraction}
use Rattle.contraction.specs.Operands.{contraction_of}

-- the letters l and t
abbrev pub lag_letter : ℕ
lag_letter = 108

abbrev pub sample_letter : ℕ
sample_letter = 116

-- a recording, or the scores, read with one label: word after word from the first
abbrev pub one_label : ℕ → ℕ → Layout
one_label letter extent = layout_of (letter ∷ []) (extent ∷ []) (pos 1 ∷ []) 0

-- a recording read with two
abbrev pub two_labels : ℕ → ℕ → Layout
two_labels lags used = layout_of (lag_letter ∷ sample_letter ∷ []) (lags ∷ used ∷ []) (pos 1 ∷ pos 1 ∷ []) 0

-- of so many lags, and so many samples of Y
unfoldable pub scoring : ℕ → ℕ → Contraction
scoring lags used = contraction_of (two_labels lags used) (one_label sample_letter used) (one_label lag_letter lags) 1 0
