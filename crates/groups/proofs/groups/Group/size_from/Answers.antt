-- `Group::size_from` meets its contract. The invariant: the product is the size of the labels done. That is at most their product where an extent 0 counts
-- as 1, which is at most that of all, and so fits 32 bits.
-- Assumes nothing.
use Rattle.std.proofs.Common.{◌≡◌, ℕ, zero, suc, ◌+◌, ◌-◌, ◌*◌, ◌<◌, ◌≤◌, List, [], ◌∷◌, map, length, get_or, take, drop, max, sym, ◌∙◌, add-one, mul-le-mul_left, mul-le-mul_right, arith, length-drop}
use native.Mathlib.Nat.{le-max_left}
use Rattle.std.proofs.Math.Seq.{take-length}
use Rattle.std.proofs.lemmas.List.{take-map, drop-map}
use Rattle.limits.specs.Limits.{product_limit}
use Rattle.groups.specs.declared.groups.Dim.{Dim}
use Rattle.groups.specs.Groups.{Label, size}
use Rattle.groups.specs.Held.{as_label, no_dim, labels_in}
use Rattle.groups.specs.Foldable.{points_in, Foldable}
use Rattle.groups.proofs.Points.{points_pos, size_points}
use Rattle.groups.proofs.groups.Group.size_from.Goals as goal

-- one label more
size_more : (xs : List Dim) (i : ℕ) → i < length xs → size (map as_label (take (suc i) xs)) ≡ size (map as_label (take i xs)) * (get_or xs i no_dim).extent
size_more [] i h = absurd (omega arith)
size_more (x ∷ xs) zero h = omega arith
size_more (x ∷ xs) (suc i) h = rw (size_more xs i (omega arith)) (omega arith)

grown : (xs : List Dim) (i p : ℕ) → i < length xs → p ≡ size (map as_label (take i xs)) → p * (get_or xs i no_dim).extent ≡ size (map as_label (take (i + 1) xs))
grown xs i p h e = rw (e, add-one i) (sym (size_more xs i h))

points_drop : (i : ℕ) (g : List Label) → points_in (drop i g) ≤ points_in g
points_drop zero g = omega arith
points_drop (suc i) [] = omega arith
points_drop (suc i) (l ∷ g) = omega (arith, points_drop i g, mul-le-mul_right (points_in g) (le-max_left 1 l.extent))

points_take : (i : ℕ) (g : List Label) → points_in (take i g) ≤ points_in g
points_take zero g = points_pos g
points_take (suc i) [] = omega arith
points_take (suc i) (l ∷ g) = mul-le-mul_left (max 1 l.extent) (points_take i g)

module _ (g : List Label) (xs : List Dim) (start : ℕ) (e : g ≡ map as_label xs) where
  -- the labels from a place on
  abbrev items : List Dim
  items = take (length xs - start) (drop start xs)

  items_are : map as_label items ≡ drop start g
  items_are = rw (← length-drop start xs, take-length (drop start xs), e) (sym (drop-map as_label start xs))

  size_fits : Foldable g → (i : ℕ) → size (map as_label (take i items)) ≤ product_limit
  size_fits f i =
      rw (← take-map as_label i items, items_are) (omega (arith, f.points, size_points (take i (drop start g)), points_take i (drop start g), points_drop start g))

  size_end : size (map as_label (take (length items) items)) ≡ size (drop start g)
  size_end = rw (take-length items, items_are)

pub slice_bounds-l-items-count : goal.slice_bounds-l-items-count
slice_bounds-l-items-count c = omega arith

pub overflow_mul-product : goal.overflow_mul-product
overflow_mul-product c =
    let l = c.loop-l in
    let xs = c.labels.result.now in
    let part = items (labels_in c.args.self) xs c.args.start c.labels.ensures.1 in
    omega (arith, grown part l.l-index l.product (omega arith) l.invariant, size_fits (labels_in c.args.self) xs c.args.start c.labels.ensures.1 c.requires.2 (l.l-index + 1))

pub loop-l-preserved : goal.loop-l-preserved
loop-l-preserved c = grown _ c.loop-l.l-index c.loop-l.product (omega arith) c.loop-l.invariant

pub returns : goal.returns
returns c =
    let l = c.loop-l in
    let xs = c.labels.result.now in
    let part = items (labels_in c.args.self) xs c.args.start c.labels.ensures.1 in
    let e : l.l-index ≡ length part = omega arith in
    (rw e at l.invariant) ∙ size_end (labels_in c.args.self) xs c.args.start c.labels.ensures.1
