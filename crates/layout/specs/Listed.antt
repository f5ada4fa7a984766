-- The axes that the code's list holds. Inside contracts only.
-- Assumes nothing.
use Rattle.std.specs.Prelude.{List}
use Rattle.words.specs.Lists.{first_of}
use Rattle.layout.specs.declared.layout.Axis.{Axis}
use Rattle.layout.specs.declared.axes.Axes.{Axes}
use Rattle.layout.specs.Layout.{no_axis}

-- the axes that the code's list holds
unfoldable pub listed : Axes → List Axis
listed x = first_of x.count no_axis x.items
