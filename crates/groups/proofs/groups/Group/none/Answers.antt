-- `Group::none` meets its contract: no place is in use.
-- Assumes nothing.
use mathlib.Core.Path.{refl}
use Rattle.groups.specs.Held.{labels_in}
use Rattle.groups.proofs.groups.Group.none.Goals as goal

pub returns : goal.returns
unfolding labels_in
returns c = (refl, refl, refl)
