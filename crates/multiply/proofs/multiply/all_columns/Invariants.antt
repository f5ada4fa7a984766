-- `all_columns` meets its contract. The invariant: where a column is left, `at` is the place of column c, and D's words are those that c turns leave. A turn stores the next
-- eight columns, or four, or one. The measure is how many columns are left.
-- Assumes nothing.
use Rattle.std.proofs.Common.{◌≡◌, ◌-◌, ◌<◌, ◌≤◌, length}
use Rattle.words.specs.Loops.{each}
use Rattle.block.specs.Places.{place_of}
use Rattle.columns.specs.LineStores.{lines_stored}
use Rattle.multiply.proofs.multiply.all_columns.Given as goal

abbrev pub invariant-loop-c : goal.invariant-loop-c
invariant-loop-c l =
    (l.c ≤ l.count) × (length l.d ≡ length l.initial.d) × (l.c < l.count → l.at ≡ place_of l.t.from l.t.columns.now.offsets l.c)
    × (l.d ≡ each l.c (lines_stored l.work l.p l.f l.t) l.initial.d)

abbrev pub decreases-loop-c : goal.decreases-loop-c
decreases-loop-c l = l.count - l.c
