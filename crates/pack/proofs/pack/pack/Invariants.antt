-- `pack` meets its contract. The invariant: the block's words are stored in the first d lanes, and the rest is as it was. A turn stores them in a band of lanes
-- more.
-- Assumes nothing.
use Rattle.std.proofs.Common.{◌≡◌, ℕ, ◌≤◌, List, get_or}
use Rattle.block.specs.Places.{place_of}
use Rattle.stretch.specs.StretchLanes.{lanes_stored}
use Rattle.pack.proofs.pack.pack.Given as goal

-- the word that is packed at place n of lane d
abbrev pub word_at : List ℕ → List ℕ → List ℕ → ℕ → ℕ → ℕ
word_at src starts offsets d n = get_or src (place_of (get_or starts d 0) offsets n) 0

abbrev pub invariant-loop-d : goal.invariant-loop-d
invariant-loop-d l =
    (l.d ≤ l.filled) × (l.out ≡ lanes_stored l.d l.block.count l.width (word_at l.src l.starts l.block.offsets) 0 l.initial.out)
