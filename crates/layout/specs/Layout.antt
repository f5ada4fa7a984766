-- A tensor's layout, and the address of an entry.
-- Assumes nothing.
use Rattle.std.specs.Prelude.{ℕ, ◌+◌, ◌*◌, ◌-◌, List, [], ◌∷◌, map, get_or, length, ℤ, pos, ◌+ℤ◌, ◌*ℤ◌}
use Rattle.words.specs.Sums.{sum_of}
use Rattle.words.specs.Lists.{tabulate, first_of}
use Rattle.words.specs.Words.{up, down}
use Rattle.limits.specs.Limits.{rank_limit}
use Rattle.layout.specs.declared.layout.Axis.{Axis}
use Rattle.layout.specs.declared.layout.Layout.{Layout}

-- what an array holds where there is no axis
abbrev pub no_axis : Axis
no_axis = record { letter = 0; extent = 0; stride = pos 0 }

-- the first 8 axes of letters, extents and strides that are handed in, 0 for what is missing
unfoldable pub axes_of : List ℕ → List ℕ → List ℤ → List Axis
axes_of cs es ss = tabulate rank_limit (λ i. record { letter = get_or cs i 0; extent = get_or es i 0; stride = get_or ss i (pos 0) })

-- the layout that is made of them and a base: those axes, and how many of each were given
unfoldable pub layout_of : List ℕ → List ℕ → List ℤ → ℕ → Layout
layout_of cs es ss base =
    record {
      axes = axes_of cs es ss;
      letter_count = length cs;
      extent_count = length es;
      stride_count = length ss;
      base = base;
    }

-- a layout's axes, one for each letter
unfoldable pub axes : Layout → List Axis
axes l = first_of l.letter_count no_axis l.axes

abbrev pub letters_of : List Axis → List ℕ
letters_of xs = map (λ a. a.letter) xs

-- Σ over the axes of the index of its letter × a part of its stride
abbrev pub along : (ℤ → ℕ) → List Axis → (ℕ → ℕ) → ℕ
along part xs ρ = sum_of (λ a. ρ a.letter * part a.stride) xs

-- the address of the entry at the index ρ, which gives each letter its value: base + Σ index × stride
unfoldable pub address : Layout → (ℕ → ℕ) → ℕ
address l ρ = (l.base + along up (axes l) ρ) - along down (axes l) ρ

-- the same as a whole number, which can be below 0: no word of a slice
abbrev pub shift : List Axis → (ℕ → ℕ) → ℤ
shift [] ρ = pos 0
shift (a ∷ xs) ρ = pos (ρ a.letter) *ℤ a.stride +ℤ shift xs ρ

unfoldable pub signed_address : Layout → (ℕ → ℕ) → ℤ
signed_address l ρ = pos l.base +ℤ shift (axes l) ρ
