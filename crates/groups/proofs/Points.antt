-- The product of a group's extents where an extent 0 counts as 1: it is 1 or more, and no less than the size.
-- Assumes nothing.
use mathlib.Core.List.{List}
use Prim.Native.Nat.{◌≤◌, ◌<◌, max}
use native.Mathlib.Nat.{le-max_left, le-max_right, max-le}
use Rattle.words.proofs.Sums.{product_pos, product_le}
use Rattle.groups.specs.Groups.{Label, size}
use Rattle.groups.specs.Foldable.{points_in}

pub points_pos : (g : List Label) → 0 < points_in g
points_pos g = product_pos _ (λ l. le-max_left 1 l.extent) g

pub size_points : (g : List Label) → size g ≤ points_in g
size_points g = product_le _ _ (λ l. le-max_right 1 l.extent) g

pub size_counted : (g : List Label) → max 1 (size g) ≤ points_in g
size_counted g = max-le (points_pos g) (size_points g)
