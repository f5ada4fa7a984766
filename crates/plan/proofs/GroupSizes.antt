-- The four groups share the letters out: each letter is in just one of them, so that the product of what question 7 counts of each is what it counts of all.
-- Assumes nothing.
use mathlib.Core.Path.{◌≡◌, refl, ap}
use mathlib.Core.List.{List, [], ◌∷◌}
use Prim.Native.Nat.{ℕ, ◌*◌, max}
use native.Mathlib.Omega.{arith}
use lib.Dec.{eqb}
use Rattle.words.specs.Sums.{product}
use Rattle.words.specs.Lists.{keep, cons_if}
use Rattle.words.proofs.Sums.{product_map}
use Rattle.labels.specs.Labels.{extent_of, labels}
use Rattle.points.specs.LabelQuestions.{points}
use Rattle.contraction.specs.Operands.{Shape, together}
use Rattle.groups.specs.Groups.{Label, label, Group, batch, row, column, depth, group_of, group_number, in_group, group}
use Rattle.groups.specs.Foldable.{points_in}

-- ---- letters, each with a factor and in a group
module _ (f : ℕ → ℕ) (of : ℕ → Group) where
  -- the product over the letters of a group
  abbrev share : Group → List ℕ → ℕ
  share g cs = product f (keep (λ c. eqb (group_number (of c)) (group_number g)) cs)

  shares : (cs : List ℕ) → share batch cs * share row cs * share column cs * share depth cs ≡ product f cs
  shares [] = refl
  shares (c ∷ cs) = go (of c) (ap (λ (x : ℕ). f c * x) (shares cs))
    where
      -- with a letter more, which is in the group h
      more : Group → Group → ℕ
      more h g = product f (cons_if (eqb (group_number h) (group_number g)) c (keep (λ c. eqb (group_number (of c)) (group_number g)) cs))

      go : (h : Group) → f c * (share batch cs * share row cs * share column cs * share depth cs) ≡ f c * product f cs
          → more h batch * more h row * more h column * more h depth ≡ f c * product f cs
      go batch e = omega arith
      go row e = omega arith
      go column e = omega arith
      go depth e = omega arith

pub group_points : (s : Shape) → points_in (group s batch) * points_in (group s row) * points_in (group s column) * points_in (group s depth) ≡ points (together s)
unfolding group in_group points
group_points s = rw (one batch, one row, one column, one depth) (shares counted (group_of s) (labels (together s)))
  where
    counted : ℕ → ℕ
    counted c = max 1 (extent_of c (together s))

    one : (g : Group) → points_in (group s g) ≡ share counted (group_of s) g (labels (together s))
    one g = product_map (λ (l : Label). max 1 l.extent) (label s) (keep (in_group s g) (labels (together s)))
