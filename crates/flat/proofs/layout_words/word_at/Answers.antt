-- `word_at` meets its contract: below the count it is the word, and past the end of a list `get_or` is the default.
-- Assumes nothing.
use mathlib.Core.Path.{◌≡◌, sym}
use mathlib.Core.List.{List}
use Prim.Native.Nat.{ℕ, ◌+◌, ◌<◌, ◌≤◌}
use native.Mathlib.Omega.{arith}
use lib.ListN.{get_or, get_or-eq_default}
use Rattle.words.proofs.Tabulate.{length_tabulate, get_or_tabulate}
use Rattle.flat.specs.FlatLayout.{counted}
use Rattle.flat.proofs.layout_words.word_at.Goals as goal

below : (words : List ℕ) (from count i : ℕ) → i < get_or words count 0 → get_or words (from + i) 0 ≡ get_or (counted words from count) i 0
unfolding counted
below words from count i h = sym (get_or_tabulate _ _ i 0 h)

past : (words : List ℕ) (from count i : ℕ) → get_or words count 0 ≤ i → 0 ≡ get_or (counted words from count) i 0
unfolding counted
past words from count i h = sym (get_or-eq_default (counted words from count) 0 (omega (arith, length_tabulate (get_or words count 0) (λ j. get_or words (from + j) 0))))

pub returns-then-i-words : goal.returns-then-i-words
returns-then-i-words c = below _ _ _ _ (omega arith)

pub returns-else-i-words : goal.returns-else-i-words
returns-else-i-words c = past _ _ _ _ (omega arith)
