-- `clear_band` meets its contract. The invariant: the words of `out` are those with zeros stored in q lanes. A turn stores them in one more.
-- Assumes nothing.
use Rattle.std.proofs.Common.{◌≡◌}
use Rattle.stretch.specs.StretchLanes.{lanes_stored}
use Rattle.pack.proofs.pad.clear_band.Given as goal

abbrev pub invariant-loop-q : goal.invariant-loop-q
invariant-loop-q l = l.out ≡ lanes_stored l.q l.n l.width (λ q r. 0) l.to l.initial.out
