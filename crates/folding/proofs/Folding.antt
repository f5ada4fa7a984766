-- Folding one label after another: a label more at the end of a folded list, and what a folded list and the labels still to come fold to.
-- Assumes nothing.
use mathlib.Core.Path.{◌≡◌, refl, ap, sym, ◌∙◌}
use mathlib.Core.Bool.{Bool, true, false, cond, ◌&&◌, and-true, and-false}
use mathlib.Core.List.{List, [], ◌∷◌, ◌++◌}
use Prim.Native.Nat.{ℕ, ◌*◌, ◌≤◌, max}
use native.Mathlib.Nat.{mul-pos, mul-le-mul, mul-le-mul_left, mul-le-mul_right, le-max_left, le-max_right, max-le}
use native.Mathlib.Omega.{arith}
use borrow.Author.Tests.{eq-eqb, ne_eqb}
use lib.IntN.{ℤ, pos, negsuc}
use lib.Dec.{eqb, eqb-zero-suc, eqb-suc-zero, eqb-suc-suc}
use Rattle.words.specs.Sums.{All}
use Rattle.words.specs.Lists.{keep}
use Rattle.words.specs.Words.{up, down}
use Rattle.limits.specs.Limits.{product_limit}
use Rattle.groups.specs.Groups.{Label}
use Rattle.groups.specs.Foldable.{points_in, Small, Foldable}
use Rattle.groups.proofs.Points.{points_pos}
use Rattle.folding.specs.Fold.{eq_ℤ, joins, join, join_from, join_all, add_to, not_one, fold}

-- two whole numbers are equal where both parts are
pub eq_parts : (x y : ℤ) → (eqb (up x) (up y) && eqb (down x) (down y)) ≡ eq_ℤ x y
eq_parts (pos a) (pos b) = and-true (eqb a b)
eq_parts (pos a) (negsuc b) = rw (eqb-zero-suc b) (and-false (eqb a 0))
eq_parts (negsuc a) (pos b) = rw (eqb-suc-zero a) (and-false (eqb 0 b))
eq_parts (negsuc a) (negsuc b) = eqb-suc-suc a b

-- a label more changes the end only
pub add_last : (g : List Label) (p l : Label) → add_to (g ++ p ∷ []) l ≡ g ++ cond (joins p l) (join p l ∷ []) (p ∷ l ∷ [])
add_last [] p l = refl
add_last (q ∷ []) p l = refl
add_last (q ∷ r ∷ g) p l = ap (λ (h : List Label). q ∷ h) (add_last (r ∷ g) p l)

-- what holds of all labels and the one more holds of all where joining keeps it
pub all_add : (P : Label → Type 0) → ((p l : Label) → P p → P l → P (join p l)) → (g : List Label) (l : Label) → All P g → P l → All P (add_to g l)
all_add P k [] l a h = (h, tt)
all_add P k (p ∷ []) l a h = go (joins p l)
  where
    go : (b : Bool) → All P (cond b (join p l ∷ []) (p ∷ l ∷ []))
    go true = (k p l a.0 h, tt)
    go false = (a.0, (h, tt))
all_add P k (p ∷ q ∷ g) l a h = (a.0, all_add P k (q ∷ g) l a.1 h)

-- where 0 counts as 1, a product counts no more than its factors
counted_mul : (a b : ℕ) → max 1 (a * b) ≤ max 1 a * max 1 b
counted_mul a b = max-le (mul-pos (le-max_left 1 a) (le-max_left 1 b)) (mul-le-mul (le-max_right 1 a) (le-max_right 1 b))

points_add : (g : List Label) (l : Label) → points_in (add_to g l) ≤ points_in g * max 1 l.extent
points_add [] l = omega arith
points_add (p ∷ []) l = go (joins p l)
  where
    go : (b : Bool) → points_in (cond b (join p l ∷ []) (p ∷ l ∷ [])) ≤ points_in (p ∷ []) * max 1 l.extent
    go true = omega (arith, counted_mul p.extent l.extent)
    go false = omega arith
points_add (p ∷ q ∷ g) l = omega (arith, mul-le-mul_left (max 1 p.extent) (points_add (q ∷ g) l))

-- the last extent is no more than the product
pub last_fits : (g : List Label) (l : Label) (n : ℕ) → points_in (g ++ l ∷ []) ≤ n → l.extent ≤ n
last_fits [] l n h = omega (arith, le-max_right 1 l.extent)
last_fits (q ∷ g) l n h = last_fits g l n (omega (arith, h, mul-le-mul_right (points_in (g ++ l ∷ [])) (le-max_left 1 q.extent)))

-- ---- a folded list, and the labels still to come

-- folding goes on at the last label of the folded list
abbrev pub resume : List Label → List Label → List Label
resume [] r = join_all r
resume (p ∷ []) r = join_from p r
resume (q ∷ p ∷ g) r = q ∷ resume (p ∷ g) r

pub resume_end : (g : List Label) → resume g [] ≡ g
resume_end [] = refl
resume_end (p ∷ []) = refl
resume_end (q ∷ p ∷ g) = ap (λ (h : List Label). q ∷ h) (resume_end (p ∷ g))

later : (q p : Label) (g : List Label) (l : Label) (r : List Label) → resume (q ∷ add_to (p ∷ g) l) r ≡ q ∷ resume (add_to (p ∷ g) l) r
later q p [] l r = go (joins p l)
  where
    go : (b : Bool) → resume (q ∷ cond b (join p l ∷ []) (p ∷ l ∷ [])) r ≡ q ∷ resume (cond b (join p l ∷ []) (p ∷ l ∷ [])) r
    go true = refl
    go false = refl
later q p (o ∷ g) l r = refl

pub resume_add : (g : List Label) (l : Label) (r : List Label) → resume (add_to g l) r ≡ resume g (l ∷ r)
resume_add [] l r = refl
resume_add (p ∷ []) l r = go (joins p l)
  where
    go : (b : Bool) → resume (cond b (join p l ∷ []) (p ∷ l ∷ [])) r ≡ elim b [ true ↦ join_from (join p l) r | false ↦ p ∷ join_from l r ]
    go true = refl
    go false = refl
resume_add (q ∷ p ∷ g) l r = later q p g l r ∙ ap (λ (h : List Label). q ∷ h) (resume_add (p ∷ g) l r)

-- the labels of a list, of which those up to a place are folded and the others are still to come
pub record Folding (done rest all : List Label) : Type 0 where
  pub goes : resume done (keep not_one rest) ≡ fold all
  pub foldable : Foldable done
  pub strides : All Small rest
  pub points : points_in done * points_in rest ≤ product_limit

pub fold_start : (all : List Label) → Foldable all → Folding [] all all
fold_start all f =
    record {
      goes = refl;
      foldable = record { strides = tt; points = omega arith };
      strides = f.strides;
      points = omega (arith, f.points);
    }

pub fold_end : (done all : List Label) → Folding done [] all → done ≡ fold all
fold_end done all f = sym (resume_end done) ∙ f.goes

module _ (done rest all : List Label) (l : Label) (f : Folding done (l ∷ rest) all) where
  -- a label of extent 1 is dropped
  pub fold_skip : l.extent ≡ 1 → Folding done rest all
  fold_skip e =
      record {
        goes = rw (eq-eqb l.extent 1 e) at f.goes;
        foldable = f.foldable;
        strides = f.strides.1;
        points = omega (arith, f.points, ap (λ (n : ℕ). points_in done * (max 1 n * points_in rest)) e);
      }

  -- any other is added
  pub fold_add : (l.extent ≡ 1 → ⊥) → Folding (add_to done l) rest all
  fold_add n =
      record {
        goes = resume_add done l (keep not_one rest) ∙ (rw (ne_eqb l.extent 1 n) at f.goes);
        foldable =
            record {
              strides = all_add Small (λ p q s t. record { strides = s.strides }) done l f.foldable.strides f.strides.0;
              points = omega (arith, f.points, points_add done l, mul-le-mul_left (points_in done * max 1 l.extent) (points_pos rest));
            };
        strides = f.strides.1;
        points = omega (arith, f.points, mul-le-mul_right (points_in rest) (points_add done l));
      }
