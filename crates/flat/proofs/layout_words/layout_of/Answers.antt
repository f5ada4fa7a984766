-- `layout_of` meets its contract: its axes are those of `axes_of`, and its counts are the lengths of the lists that are counted.
-- Assumes nothing.
use mathlib.Core.Path.{◌≡◌}
use mathlib.Core.List.{List}
use Prim.Native.Nat.{ℕ}
use lib.ListN.{length, get_or, length-map}
use Rattle.words.proofs.Tabulate.{length_tabulate}
use Rattle.layout.specs.Layout.{layout_of}
use Rattle.flat.specs.FlatLayout.{counted, flat_layout}
use Rattle.flat.proofs.layout_words.layout_of.Goals as goal

length_counted : (words : List ℕ) (from count : ℕ) → length (counted words from count) ≡ get_or words count 0
unfolding counted
length_counted words from count = length_tabulate _ _

pub returns : goal.returns
unfolding layout_of flat_layout
returns c =
    rw c.axes_of.ensures
    (simp (length-map, length_counted))
