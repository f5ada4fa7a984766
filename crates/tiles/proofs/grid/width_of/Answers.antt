-- `width_of` meets its contract: the smaller of b and the counts left, as `width` says.
-- Assumes nothing.
use Rattle.std.proofs.Common.{arith}
use Rattle.tiles.specs.Cut.{width}
use Rattle.tiles.proofs.grid.width_of.Goals as goal

pub returns : goal.returns
unfolding width
returns c = omega arith
