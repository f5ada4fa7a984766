-- `pack_lanes` meets its contract. The invariant: the words of `out` are those with the stretch's words stored in q lanes. A turn stores them in one more.
-- Assumes nothing.
use Rattle.std.proofs.Common.{◌≡◌}
use Rattle.stretch.specs.StretchLanes.{stretch_stored}
use Rattle.stretch.proofs.stretch.pack_lanes.Given as goal

abbrev pub invariant-loop-q : goal.invariant-loop-q
invariant-loop-q l = l.out ≡ stretch_stored (record l.lanes { count = l.q }) l.s l.to l.initial.out
