-- Questions 8 and 9, about where a tensor's entries lie. Each is a test that passes or fails.
-- Assumes nothing.
use Rattle.std.specs.Prelude.{ℕ, ◌+◌, ◌*◌, ◌-◌, Bool, not, cond, ◌&&◌, ◌||◌, List, ℤ, nat_abs, eqb, leb, ltb}
use Rattle.words.specs.Sums.{sum_of, every}
use Rattle.words.specs.Words.{up, down}
use Rattle.layout.specs.declared.layout.Axis.{Axis}
use Rattle.labels.specs.Labels.{stride_of, extent_of, labels}

-- has the tensor any entry? With an extent 0 it has none.
unfoldable pub has_entries : List Axis → Bool
has_entries xs = every (λ c. ltb 0 (extent_of c xs)) (labels xs)

-- how far the indices of the labels reach, up or down
unfoldable pub span : (ℤ → ℕ) → List Axis → ℕ
span part xs = sum_of (λ c. (extent_of c xs - 1) * part (stride_of c xs)) (labels xs)

-- question 8: does every entry fall inside the slice? There is none, or the lowest address is 0 or more and the highest below the slice's length.
unfoldable pub inside : List Axis → ℕ → ℕ → Bool
inside xs base n = not (has_entries xs) || (leb (span down xs) base && ltb (base + span up xs) n)

-- a label's stride size
abbrev pub stride_size : List Axis → ℕ → ℕ
stride_size xs c = nat_abs (stride_of c xs)

-- Σ (extent - 1) × stride size over the labels other than c whose stride size is no greater
unfoldable pub below : List Axis → ℕ → ℕ
below xs c =
    sum_of (λ d. cond (not (eqb c d) && leb (stride_size xs d) (stride_size xs c)) ((extent_of d xs - 1) * stride_size xs d) 0) (labels xs)

-- for each label of extent above 1, its stride's size exceeds that sum
unfoldable pub strides_apart : List Axis → Bool
strides_apart xs = every (λ c. leb (extent_of c xs) 1 || ltb (below xs c) (stride_size xs c)) (labels xs)

-- question 9: are the entries apart? There is none, or the strides leave room.
unfoldable pub apart : List Axis → Bool
apart xs = not (has_entries xs) || strides_apart xs
