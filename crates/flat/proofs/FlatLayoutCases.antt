-- What the 28 words of a layout say, by computation.
-- Assumes nothing.
use mathlib.Core.Path.{refl}
use Rattle.layout.specs.Layout.{layout_of}
use Rattle.flat.specs.FlatLayout.{counted, flat_layout}
use Rattle.flat.specs.FlatLayoutCases.{FlatLayoutCases}

pub flat_layout_cases : FlatLayoutCases
unfolding layout_of counted flat_layout
flat_layout_cases =
    record {
      eight_axes = refl;
      two_axes = refl;
      no_axes = refl;
      counts_apart = refl;
      ninth_letter = refl;
      tensors = refl;
      tensors_with_c = refl;
    }
