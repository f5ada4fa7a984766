-- `few_rows` meets its contract. The invariant: where a column is left, `at` is the place of column c, and D's words are those that c columns leave, their sums taken
-- from where the rows' sums stand. These are the tile's.
-- Assumes nothing.
use Rattle.std.proofs.Common.{◌≡◌, ℕ, ◌+◌, ◌*◌, ◌<◌, List, length, get_or}
use Rattle.words.specs.Loops.{each, put}
use Rattle.limits.specs.Limits.{block_limit}
use Rattle.block.specs.Places.{place_of}
use Rattle.accumulate.specs.declared.accumulate.Factors.{Factors}
use Rattle.accumulate.specs.Added.{added_to}
use Rattle.few_rows.proofs.few.few_rows.Given as goal

-- column c's sums, from where they stand
abbrev pub stores : Factors → ℕ → List ℕ → List ℕ → ℕ → List ℕ → ℕ → List ℕ → List ℕ
stores f from columns rows m few c = each m (λ r. put (added_to f (get_or few (4 * c + r) 0)) (place_of (place_of from columns c) rows r))

abbrev pub invariant-loop-c : goal.invariant-loop-c
invariant-loop-c l =
    (length l.d ≡ length l.initial.d) × (length l.sums ≡ block_limit) × (l.c < l.t.columns.now.count → l.at ≡ place_of l.t.from l.t.columns.now.offsets l.c)
    × (l.d ≡ each l.c (stores l.f l.t.from l.t.columns.now.offsets l.t.rows.now.offsets l.t.rows.now.count l.few) l.initial.d)
