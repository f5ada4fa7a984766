-- What a panel makes of a word of D. Inside contracts only.
-- Assumes nothing.
use Rattle.std.specs.Prelude.{ℕ, ◌+◌, ◌*◌, Option, Some, None, List, slice_index}
use Rattle.words.specs.Words.{word}
use Rattle.words.specs.Loops.{each, put}
use Rattle.block.specs.Places.{place_of}
use Rattle.accumulate.specs.declared.accumulate.Factors.{Factors}

-- what a sum is added to: in the first panel, which has beta, beta × the old word, and in a later one the old word
abbrev pub times_beta : Option ℕ → ℕ → ℕ
times_beta (Some beta) w = beta * w
times_beta None w = w

-- what a panel with that sum makes of the word w of D
abbrev pub added_to : Factors → ℕ → ℕ → ℕ
added_to f sum w = word 32 (times_beta f.beta w + f.alpha * sum)

-- D's words with n sums from place r on added, each at its place; `change` is what a sum makes of a word
abbrev pub all_added : ℕ → (ℕ → ℕ → ℕ) → List ℕ → ℕ → (ℕ → ℕ) → List ℕ → List ℕ
all_added n change sums r place = each n (λ k. put (change (slice_index sums (r + k))) (place k))

-- D's words with the sums of a column's rows added at the places of the rows
abbrev pub rows_added : ℕ → Factors → List ℕ → ℕ → List ℕ → List ℕ → List ℕ
rows_added count f sums from offsets = each count (λ r. put (added_to f (slice_index sums r)) (place_of from offsets r))
