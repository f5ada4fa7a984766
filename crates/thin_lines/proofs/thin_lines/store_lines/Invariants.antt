-- `store_lines` meets its contract. The invariant: D's words are those that q lines leave. A turn sums line q along the long block and adds the sums at its places.
-- Assumes nothing.
use Rattle.std.proofs.Common.{◌≡◌, length}
use Rattle.thin_lines.specs.Crossed.{sides_sum}
use Rattle.thin_lines.specs.ThinLines.{lines_added}
use Rattle.thin_lines.proofs.thin_lines.store_lines.Given as goal

abbrev pub invariant-loop-q : goal.invariant-loop-q
invariant-loop-q l =
    (length l.d ≡ length l.initial.d)
    × (l.d ≡ lines_added l.f (sides_sum l.long l.short) l.from l.across.offsets l.q l.along.offsets l.long.block.now.count l.initial.d)
