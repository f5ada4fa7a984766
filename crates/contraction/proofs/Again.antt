-- Axes that stand in a list already add nothing behind it: no label, and no extent of one. So it is where C is not named and D stands for it.
-- Assumes nothing.
use mathlib.Core.Path.{◌≡◌, refl, sym, ap, ◌∙◌}
use mathlib.Core.Bool.{Bool, true, false, cond}
use mathlib.Core.List.{List, [], ◌∷◌, ◌++◌, append-nil, append_assoc, map-append}
use Prim.Native.Nat.{ℕ, ◌≤◌}
use native.Mathlib.Omega.{arith}
use lib.Dec.{eqb}
use lib.ListN.{length, length-map}
use Rattle.words.specs.Sums.{All}
use Rattle.words.specs.Lists.{member, distinct}
use Rattle.words.proofs.Lists.{all_imp, all_map, covers, member_distinct, member_append, distinct_short}
use Rattle.layout.specs.declared.layout.Axis.{Axis}
use Rattle.layout.specs.Layout.{letters_of}
use Rattle.labels.specs.Labels.{extent_of, labels}
use Rattle.labels.proofs.Spelling.{distinct_next}

member_left : (c : ℕ) (xs ys : List ℕ) → member c xs ≡ true → member c (xs ++ ys) ≡ true
member_left c xs ys e = member_append c xs ys ∙ rw e

-- ---- labels

distinct_again : (xs ys : List ℕ) → All (λ c. member c xs ≡ true) ys → distinct (xs ++ ys) ≡ distinct xs
distinct_again xs [] h = ap distinct (append-nil xs)
distinct_again xs (y ∷ ys) h =
    ap distinct (sym (append_assoc xs (y ∷ []) ys))
    ∙ distinct_again (xs ++ y ∷ []) ys (all_imp (λ c. member_left c xs (y ∷ [])) ys h.1)
    ∙ distinct_next xs y
    ∙ rw (member_distinct y xs h.0)

-- the labels of a list with axes behind it whose letters stand in its front
pub labels_among : (xs ys zs : List Axis) → All (λ a. member a.letter (letters_of xs) ≡ true) zs → labels ((xs ++ ys) ++ zs) ≡ labels (xs ++ ys)
unfolding labels
labels_among xs ys zs h =
    ap distinct (map-append (λ a. a.letter) (xs ++ ys) zs)
    ∙ distinct_again (letters_of (xs ++ ys)) (letters_of zs)
    (all_map (λ c. member c (letters_of (xs ++ ys)) ≡ true) (λ a. a.letter) zs
    (all_imp (λ a e. rw (map-append (λ a. a.letter) xs ys) (member_left a.letter (letters_of xs) (letters_of ys) e)) zs h))

-- and with its own front
pub labels_again : (xs ys : List Axis) → labels ((xs ++ ys) ++ xs) ≡ labels (xs ++ ys)
labels_again xs ys = labels_among xs ys xs (covers (λ a. a.letter) xs)

-- there are no more labels than axes
pub labels_short : (xs : List Axis) → length (labels xs) ≤ length xs
unfolding labels
labels_short xs = omega (arith, distinct_short (letters_of xs), length-map xs (λ a. a.letter))

-- ---- extents

module _ (c : ℕ) where
  -- a letter's extent in a list comes from the front, or from what stands behind it
  extent_behind : (xs ys zs : List Axis) → extent_of c ys ≡ extent_of c zs → extent_of c (xs ++ ys) ≡ extent_of c (xs ++ zs)
  extent_behind [] ys zs e = e
  extent_behind (a ∷ xs) ys zs e = ap (λ (n : ℕ). cond (eqb a.letter c) a.extent n) (extent_behind xs ys zs e)

  -- the front has the letter, so that nothing behind it counts; or it has not, and what is behind it counts alone
  data Front (xs : List Axis) : Type 0 where
    found : ((ys zs : List Axis) → extent_of c (xs ++ ys) ≡ extent_of c (xs ++ zs)) → Front xs
    absent : extent_of c xs ≡ 1 → Front xs

  front : (xs : List Axis) → Front xs
  front [] = absent refl
  front (a ∷ xs) = go (eqb a.letter c) refl (front xs)
    where
      go : (b : Bool) → eqb a.letter c ≡ b → Front xs → Front (a ∷ xs)
      go true e f = found (λ ys zs. rw e)
      go false e (found f) = found (λ ys zs. rw e (f ys zs))
      go false e (absent f) = absent (rw e f)

  pub extent_again : (xs ys : List Axis) → extent_of c (xs ++ (ys ++ [])) ≡ extent_of c (xs ++ (ys ++ xs))
  extent_again xs ys = go (front xs)
    where
      go : Front xs → extent_of c (xs ++ (ys ++ [])) ≡ extent_of c (xs ++ (ys ++ xs))
      go (found f) = f (ys ++ []) (ys ++ xs)
      go (absent e) = extent_behind xs (ys ++ []) (ys ++ xs) (extent_behind ys [] xs (sym e))
