-- Question 8 passes just where every index in range has its entry inside the slice. With an extent 0 no index is in range. Without, the labels' indices
-- reach at most the span, up or down; the indices of two corners reach it, so the test asks no more than it must.
-- Assumes nothing.
use mathlib.Core.Path.{◌≡◌, refl}
use mathlib.Core.List.{List, [], ◌∷◌}
use mathlib.Core.Logic.{◌↔◌}
use Prim.Native.Nat.{ℕ, zero, suc, ◌+◌, ◌*◌, ◌-◌, min, ◌≤◌, ◌<◌}
use native.Mathlib.Nat.{mul-le-mul_right, min-le_right, suc-min-suc, min-zero}
use native.Mathlib.Omega.{arith}
use lib.IntN.{ℤ, pos, negsuc}
use lib.Dec.{T, leb, ltb, leb→le, le→leb, ltb→lt, lt→ltb}
use Rattle.words.specs.Sums.{sum_of}
use Rattle.words.specs.Words.{up, down}
use Rattle.words.proofs.Lists.{all_imp}
use Rattle.words.proofs.Sums.{sum_of_zero, and_split, and_join, where_split, where_join, every_all, all_every}
use Rattle.layout.specs.declared.layout.Axis.{Axis}
use Rattle.layout.specs.declared.layout.Layout.{Layout}
use Rattle.layout.specs.Layout.{axes, address}
use Rattle.labels.specs.Labels.{stride_of, extent_of, labels}
use Rattle.entries.specs.EntryQuestions.{has_entries, span, inside}
use Rattle.entries.specs.Bounds.{InRange, Inside}
use Rattle.entries.proofs.ByLabel.{over, axes_labels}
use Rattle.entries.proofs.Injective.{sum_of_le}

over_le_span : (part : ℤ → ℕ) (xs : List Axis) (ρ : ℕ → ℕ) → InRange xs ρ → over part xs ρ ≤ span part xs
unfolding span
over_le_span part xs ρ h = sum_of_le _ _ (labels xs) (all_imp (λ c b. mul-le-mul_right {m = ρ c} {n = extent_of c xs - 1} (part (stride_of c xs)) (omega arith)) (labels xs) h)

-- an index in range shows that there are entries
pub in_range_some : (xs : List Axis) (ρ : ℕ → ℕ) → InRange xs ρ → T (has_entries xs)
unfolding has_entries
in_range_some xs ρ h = all_every _ (labels xs) (all_imp (λ c b. lt→ltb 0 (extent_of c xs) (omega arith)) (labels xs) h)

-- where there are entries, the test is that of the two ends
inside_le : (xs : List Axis) (base n : ℕ) → T (inside xs base n) ↔ (T (has_entries xs) → (span down xs ≤ base) × (base + span up xs < n))
unfolding inside
inside_le xs base n = (
  (λ q e. let b = and_split (leb (span down xs) base) (ltb (base + span up xs) n) (where_split (has_entries xs) _ q e) in (leb→le _ _ b.0, ltb→lt _ _ b.1)),
  λ f. where_join (has_entries xs) _
      (λ e. let b = f e in and_join (leb (span down xs) base) (ltb (base + span up xs) n) (le→leb _ _ b.0) (lt→ltb _ _ b.1)),
)

-- ---- corners

-- the index of a corner: the last where the part of the stride counts, and 0 elsewhere
toward : (ℤ → ℕ) → ℤ → ℕ → ℕ
toward part s e = min (part s) 1 * (e - 1)

toward_lt : (part : ℤ → ℕ) (s : ℤ) (e : ℕ) → 0 < e → toward part s e < e
unfolding toward
toward_lt part s e h = omega (arith, mul-le-mul_right {n = 1} (e - 1) (min-le_right (part s) 1))

toward_own : (part : ℤ → ℕ) (s : ℤ) (e : ℕ) → toward part s e * part s ≡ (e - 1) * part s
unfolding toward
toward_own part s e = go (part s)
  where
    go : (k : ℕ) → min k 1 * (e - 1) * k ≡ (e - 1) * k
    go zero = omega arith
    go (suc k) = rw (suc-min-suc k 0, min-zero k) (omega arith)

down_up : (s : ℤ) (e : ℕ) → toward down s e * up s ≡ 0
unfolding toward
down_up (pos n) e = omega arith
down_up (negsuc n) e = omega arith

up_down : (s : ℤ) (e : ℕ) → toward up s e * down s ≡ 0
unfolding toward
up_down (pos n) e = omega arith
up_down (negsuc n) e = omega arith

module _ (xs : List Axis) (part : ℤ → ℕ) where
  corner : ℕ → ℕ
  corner c = toward part (stride_of c xs) (extent_of c xs)

  corner_in : T (has_entries xs) → InRange xs corner
  unfolding corner has_entries
  corner_in p = all_imp (λ c k. toward_lt part (stride_of c xs) (extent_of c xs) (ltb→lt 0 (extent_of c xs) k)) (labels xs) (every_all _ (labels xs) p)

  corner_over : (other : ℤ → ℕ) (f : ℤ → ℕ → ℕ) → ((s : ℤ) (e : ℕ) → toward part s e * other s ≡ f s e)
      → (cs : List ℕ) → sum_of (λ c. corner c * other (stride_of c xs)) cs ≡ sum_of (λ c. f (stride_of c xs) (extent_of c xs)) cs
  unfolding corner
  corner_over other f h [] = refl
  corner_over other f h (c ∷ cs) = rw (h (stride_of c xs) (extent_of c xs), corner_over other f h cs)

-- ---- question 8

module _ (l : Layout) (n : ℕ) where
  pub inside_every : T (inside (axes l) l.base n) → (ρ : ℕ → ℕ) → InRange (axes l) ρ → Inside l n ρ
  unfolding address
  inside_every q ρ h =
      let b = (inside_le (axes l) l.base n).0 q (in_range_some (axes l) ρ h) in
      let u = over_le_span up (axes l) ρ h in
      let d = over_le_span down (axes l) ρ h in
      let e = axes_labels (axes l) ρ in
      omega arith

  -- the two corners, downwards and upwards, show the converse
  every_inside : ((ρ : ℕ → ℕ) → InRange (axes l) ρ → Inside l n ρ) → T (inside (axes l) l.base n)
  unfolding address span
  every_inside f =
      let xs : List Axis = axes l in
      let cs : List ℕ = labels xs in
      let none = sum_of_zero cs in
      (inside_le xs l.base n).1 (λ some.
      let low = f (corner xs down) (corner_in xs down some) in
      let high = f (corner xs up) (corner_in xs up some) in (
        omega (arith, axes_labels xs (corner xs down), corner_over xs down down _ (toward_own down) cs, corner_over xs down up _ down_up cs),
        omega (arith, axes_labels xs (corner xs up), corner_over xs up up _ (toward_own up) cs, corner_over xs up down _ up_down cs),
      ))

  -- question 8 passes exactly when every index in range addresses a word inside the slice
  pub inside_exactly : T (inside (axes l) l.base n) ↔ ((ρ : ℕ → ℕ) → InRange (axes l) ρ → Inside l n ρ)
  inside_exactly = (inside_every, every_inside)
