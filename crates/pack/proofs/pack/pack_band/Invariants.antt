-- `pack_band` meets its contract. The invariant: the words of `out` are those with the first r places of the block stored in each lane. A turn stores the stretch
-- from place r on in all of them, whose places are those of the block. The measure is how many places are left.
-- Assumes nothing.
use Rattle.std.proofs.Common.{◌≡◌, ◌-◌, ◌≤◌}
use Rattle.pack.specs.PackNeeds.{band_stored}
use Rattle.pack.proofs.pack.pack_band.Given as goal

abbrev pub invariant-loop-r : goal.invariant-loop-r
invariant-loop-r l = (l.r ≤ l.block.count) × (l.out ≡ band_stored l.lanes (record l.block { count = l.r }) l.to l.initial.out)

abbrev pub decreases-loop-r : goal.decreases-loop-r
decreases-loop-r l = l.block.count - l.r
