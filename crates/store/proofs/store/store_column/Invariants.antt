-- `store_column` meets its contract. The invariant: D's words are those that r rows leave. A turn adds the sums of two rows, or those of the stretch from row r on,
-- whose places are those of the block; after the loop at most one row is left. The measure is how many rows are left.
-- Assumes nothing.
use Rattle.std.proofs.Common.{◌≡◌, ℕ, ◌-◌, ◌≤◌, List, length, get_or}
use Rattle.words.specs.Loops.{each, put}
use Rattle.block.specs.Places.{place_of}
use Rattle.accumulate.specs.declared.accumulate.Factors.{Factors}
use Rattle.accumulate.specs.Added.{added_to}
use Rattle.store.proofs.store.store_column.Given as goal

-- what row r makes of D's words
abbrev pub row_added : Factors → List ℕ → ℕ → List ℕ → ℕ → List ℕ → List ℕ
row_added f sums from offsets r = put (added_to f (get_or sums r 0)) (place_of from offsets r)

abbrev pub invariant-loop-r : goal.invariant-loop-r
invariant-loop-r l =
    (l.r ≤ l.count) × (length l.d ≡ length l.initial.d) × (l.d ≡ each l.r (row_added l.f l.sums l.from l.offsets) l.initial.d)

abbrev pub decreases-loop-r : goal.decreases-loop-r
decreases-loop-r l = l.count - l.r
