-- `Axes::as_slice` meets its contract: the front of the array, which has room for them.
-- Assumes nothing.
use native.Mathlib.Omega.{arith}
use Rattle.words.proofs.Tabulate.{first_of_take}
use Rattle.layout.specs.Layout.{no_axis}
use Rattle.layout.specs.Listed.{listed}
use Rattle.layout.proofs.axes.Axes.as_slice.Goals as goal

pub returns : goal.returns
unfolding listed
returns c = first_of_take no_axis c.args.self.now.items c.args.self.now.count (omega arith)
