-- How many axes a list holds.
-- Assumes nothing.
use mathlib.Core.Path.{◌≡◌}
use lib.ListN.{length}
use Rattle.words.proofs.Tabulate.{length_first_of}
use Rattle.layout.specs.declared.axes.Axes.{Axes}
use Rattle.layout.specs.Layout.{no_axis}
use Rattle.layout.specs.Listed.{listed}

pub length_listed : (x : Axes) → length (listed x) ≡ x.count
unfolding listed
length_listed x = length_first_of x.count no_axis x.items
