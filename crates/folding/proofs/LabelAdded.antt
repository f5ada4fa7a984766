-- One label more in the code's list: nothing is folded yet, or the last label is split off: it joins the new one, or the new one goes behind it.
-- Assumes nothing.
use mathlib.Core.Path.{◌≡◌, ap, sym, ◌∙◌}
use mathlib.Core.Bool.{Bool, true, false, cond}
use mathlib.Core.List.{List, [], ◌∷◌, ◌++◌, append_assoc}
use Prim.Native.Nat.{ℕ, ◌+◌, ◌-◌, ◌*◌, ◌<◌, ◌≤◌}
use native.Mathlib.Decide.{ℕ_discrete}
use native.Mathlib.Omega.{arith}
use lib.ListN.{length, get_or, set}
use Rattle.words.proofs.Lists.{all_split}
use Rattle.limits.specs.Limits.{product_limit}
use Rattle.groups.specs.declared.groups.Dim.{Dim}
use Rattle.groups.specs.declared.groups.Group.{Group}
use Rattle.groups.specs.Groups.{Label}
use Rattle.groups.specs.Held.{as_label, no_dim, labels_in}
use Rattle.groups.specs.Foldable.{Small, Foldable}
use Rattle.groups.proofs.LabelLists.{holding, labels_push, labels_last}
use Rattle.folding.specs.Fold.{joins, join, add_to}
use Rattle.folding.proofs.Folding.{add_last, last_fits}

-- a group that holds a label: those before the last, and the last
abbrev front : Group → List Label
front g = labels_in (holding g.dims (g.count - 1))

abbrev pub last : Group → Dim
last g = get_or g.dims (g.count - 1) no_dim

empty : (g : Group) → g.count ≡ 0 → labels_in g ≡ []
unfolding labels_in
empty g e = rw e

module _ (g : Group) (h : 0 < g.count) where
  one_more : (g.count - 1) + 1 ≡ g.count
  one_more = omega arith

  split : labels_in g ≡ front g ++ as_label (last g) ∷ []
  split = ap (λ (n : ℕ). labels_in (holding g.dims n)) (sym one_more) ∙ labels_last g.dims (g.count - 1)

  grown_by : (l : Dim) (b : Bool) → joins (as_label (last g)) (as_label l) ≡ b
      → add_to (labels_in g) (as_label l) ≡ front g ++ cond b (join (as_label (last g)) (as_label l) ∷ []) (as_label (last g) ∷ as_label l ∷ [])
  grown_by l b e =
      ap (λ (k : List Label). add_to k (as_label l)) split ∙ add_last (front g) (as_label (last g)) (as_label l)
      ∙ ap (λ (t : Bool). front g ++ cond t (join (as_label (last g)) (as_label l) ∷ []) (as_label (last g) ∷ as_label l ∷ [])) e

  pub small_last : Foldable (labels_in g) → Small (as_label (last g))
  small_last f = (all_split Small (front g) (as_label (last g) ∷ []) (rw split at f.strides)).1.0

  pub joined_fits : (l : Dim) → Foldable (add_to (labels_in g) (as_label l)) → joins (as_label (last g)) (as_label l) ≡ true
      → (last g).extent * l.extent < 4294967296
  joined_fits l k e =
      let b : (last g).extent * l.extent ≤ product_limit = last_fits (front g) (join (as_label (last g)) (as_label l)) product_limit (rw (grown_by l true e) at k.points) in
      omega arith

  pub replaced : (l j : Dim) → g.count - 1 < length g.dims → joins (as_label (last g)) (as_label l) ≡ true → as_label j ≡ join (as_label (last g)) (as_label l)
      → labels_in (holding (set g.dims (g.count - 1) j) g.count) ≡ add_to (labels_in g) (as_label l)
  replaced l j k e f =
      ap (λ (n : ℕ). labels_in (holding (set g.dims (g.count - 1) j) n)) (sym one_more) ∙ labels_push g.dims (g.count - 1) j k
      ∙ ap (λ (q : Label). front g ++ q ∷ []) f ∙ sym (grown_by l true e)

  behind : (l : Dim) → joins (as_label (last g)) (as_label l) ≡ false → labels_in g ++ as_label l ∷ [] ≡ add_to (labels_in g) (as_label l)
  behind l e = ap (λ (k : List Label). k ++ as_label l ∷ []) split ∙ append_assoc (front g) (as_label (last g) ∷ []) (as_label l ∷ []) ∙ sym (grown_by l false e)

-- where l does not continue the last label, or there is none, it goes behind
pub added_behind : (g : Group) (l : Dim) → g.count < length g.dims → (0 < g.count → joins (as_label (last g)) (as_label l) ≡ false)
    → labels_in (holding (set g.dims g.count l) (g.count + 1)) ≡ add_to (labels_in g) (as_label l)
added_behind g l h e = labels_push g.dims g.count l h ∙ go (ℕ_discrete g.count 0)
  where
    go : Dec (g.count ≡ 0) → labels_in g ++ as_label l ∷ [] ≡ add_to (labels_in g) (as_label l)
    go (yes z) = rw (empty g z)
    go (no z) = let p : 0 < g.count = omega (arith, z) in behind g p l (e p)
