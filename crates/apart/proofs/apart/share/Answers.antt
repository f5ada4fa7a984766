-- `share` meets its contract: the flag is the test that the sum's definition makes, and the product is below 2^48.
-- Assumes nothing.
use mathlib.Core.Path.{◌≡◌}
use mathlib.Core.Bool.{true, false, not, ◌&&◌}
use Prim.Native.Nat.{◌*◌, ◌-◌, ◌^◌, ◌<◌}
use native.Mathlib.Omega.{arith}
use lib.Dec.{eqb, leb}
use Rattle.layout.specs.Listed.{listed}
use Rattle.labels.specs.Labels.{extent_of}
use Rattle.labels.proofs.Facts.{extents_bound}
use Rattle.entries.specs.EntryQuestions.{stride_size}
use Rattle.entries.proofs.Reach.{reach_lt}
use Rattle.apart.proofs.apart.share.Goals.{After-last_index}
use Rattle.apart.proofs.apart.share.Goals as goal

-- the product, where it is made
added : (c : After-last_index)
    → (c.last_index.result * c.stride_size-size.result
    ≡ (extent_of c.args.d (listed c.args.x) - 1) * stride_size (listed c.args.x) c.args.d)
added c = rw (c.last_index.ensures, c.extent_of.ensures, c.stride_size-size.ensures.0)

small : (c : After-last_index) → c.last_index.result * c.stride_size-size.result < 2 ^ 48
small c =
    rw (c.last_index.ensures, c.extent_of.ensures)
    (reach_lt _ _ (extents_bound (listed c.args.x) c.requires.extents c.args.d) c.stride_size-size.ensures.1)

pub overflow_mul-result : goal.overflow_mul-result
overflow_mul-result c = omega (arith, small c)

pub returns-then-c-d : goal.returns-then-c-d
returns-then-c-d c =
    let size = c.stride_size-size in
    let size2 = c.stride_size in
    let test : (not (eqb c.args.c c.args.d) && leb size.result size2.result) ≡ true = c.if-c-d.true in
    (rw (added c, ← size.ensures.0, ← size2.ensures.0, test), small c)

pub returns-else-c-d : goal.returns-else-c-d
returns-else-c-d c =
    let size = c.stride_size-size in
    let size2 = c.stride_size in
    let test : (not (eqb c.args.c c.args.d) && leb size.result size2.result) ≡ false = c.if-c-d.false in
    (rw (← size.ensures.0, ← size2.ensures.0, test), omega arith)
