-- `Group::size_from` meets its contract. The invariant: the product is the size of the labels done. That is at most their product where an extent 0 counts
-- as 1, which is at most that of all, and so fits 32 bits.
-- Assumes nothing.
use Rattle.std.proofs.Common.{◌≡◌, map, take}
use Rattle.groups.specs.Groups.{size}
use Rattle.groups.specs.Held.{as_label}
use Rattle.groups.proofs.groups.Group.size_from.Given as goal

abbrev pub invariant-loop-l : goal.invariant-loop-l
invariant-loop-l l = l.product ≡ size (map as_label (take l.l-index l.l-items))
