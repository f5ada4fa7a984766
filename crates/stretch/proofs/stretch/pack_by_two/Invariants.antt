-- `pack_by_two` meets its contract. The invariant: a place is left, `at` is k steps from the first, and the words of `out` are those with k words of the stretch
-- stored in each lane. A turn stores two more, or the last one.
-- Assumes nothing.
use Rattle.std.proofs.Common.{◌≡◌, ◌<◌}
use Rattle.words.specs.Stepped.{stepped}
use Rattle.stretch.specs.StretchLanes.{stretch_stored}
use Rattle.stretch.proofs.stretch.pack_by_two.Given as goal

abbrev pub invariant-loop-k : goal.invariant-loop-k
invariant-loop-k l =
    record {
      left : l.k < l.s.len;
      at : l.at ≡ stepped l.s.offset l.s.step l.k;
      out : l.out ≡ stretch_stored l.lanes (record l.s { len = l.k }) l.to l.initial.out;
    }
