-- An index in range, and an entry inside its slice.
-- Assumes nothing.
use Rattle.std.specs.Prelude.{ℕ, ◌+◌, ◌≤◌, ◌<◌, List}
use Rattle.words.specs.Sums.{All}
use Rattle.words.specs.Words.{up, down}
use Rattle.layout.specs.declared.layout.Axis.{Axis}
use Rattle.layout.specs.declared.layout.Layout.{Layout}
use Rattle.layout.specs.Layout.{axes, along, address}
use Rattle.labels.specs.Labels.{extent_of, labels}

-- the index gives each label a value below its extent
abbrev pub InRange : List Axis → (ℕ → ℕ) → Type 0
InRange xs ρ = All (λ c. ρ c < extent_of c xs) (labels xs)

-- the entry at the index is a word of a slice of n words: its address is not below 0, and below n
abbrev pub Inside : Layout → ℕ → (ℕ → ℕ) → Type 0
Inside l n ρ = (along down (axes l) ρ ≤ l.base + along up (axes l) ρ) × (address l ρ < n)
