-- Question 6: a letter has the same extent wherever it occurs, so a tensor's own extent of a letter is the label's.
-- Assumes nothing.
use mathlib.Core.Path.{◌≡◌, refl, ap, sym, ◌∙◌}
use mathlib.Core.Bool.{Bool, true, false, cond, ◌||◌, true≢false}
use mathlib.Core.List.{List, [], ◌∷◌, ◌++◌}
use Prim.Native.Nat.{ℕ}
use lib.Dec.{T, eqb, eqb→eq}
use Rattle.words.specs.Sums.{All}
use Rattle.words.specs.Lists.{member}
use Rattle.words.proofs.Lists.{all_imp, all_split, eqb-true, eqb_flip, eqb_self}
use Rattle.words.proofs.Sums.{every_all}
use Rattle.layout.specs.declared.layout.Axis.{Axis}
use Rattle.layout.specs.Layout.{letters_of}
use Rattle.labels.specs.Labels.{extent_of}
use Rattle.points.specs.LabelQuestions.{extents_agree}
use Rattle.contraction.specs.Operands.{Shape, together}
use Rattle.contraction.specs.declared.contraction.Operand.{Operand}
use Rattle.contraction.specs.declared.contraction.Operand.TheVariants.{A, B, C, D}
use Rattle.groups.specs.Groups.{letters}

-- where each axis has the extent that e gives its letter, so does each letter's first
first_extent : (e : ℕ → ℕ) (c : ℕ) (xs : List Axis) → All (λ a. a.extent ≡ e a.letter) xs → member c (letters_of xs) ≡ true → extent_of c xs ≡ e c
first_extent e c [] h m = absurd (true≢false (sym m))
first_extent e c (a ∷ xs) h m = go (eqb c a.letter) refl m (first_extent e c xs h.1)
  where
    flip : (b : Bool) → eqb c a.letter ≡ b → eqb a.letter c ≡ b
    flip true p = rw (eqb-true c a.letter p) (eqb_self a.letter)
    flip false p = eqb_flip c a.letter p

    go : (b : Bool) → eqb c a.letter ≡ b → (b || member c (letters_of xs)) ≡ true → (member c (letters_of xs) ≡ true → extent_of c xs ≡ e c)
        → cond (eqb a.letter c) a.extent (extent_of c xs) ≡ e c
    go true p m r = rw (flip true p) (h.0 ∙ ap e (sym (eqb-true c a.letter p)))
    go false p m r = rw (flip false p) (r m)

-- what holds of the axes of all tensors holds of each tensor's
pub together_all : (P : Axis → Type 0) (s : Shape) → All P (together s) → (o : Operand) → All P (s o)
unfolding together
together_all P s h = each
  where
    abc : All P (s A ++ (s B ++ s C))
    abc = (all_split P (s D) (s A ++ (s B ++ s C)) h).1

    bc : All P (s B) × All P (s C)
    bc = all_split P (s B) (s C) (all_split P (s A) (s B ++ s C) abc).1

    each : (o : Operand) → All P (s o)
    each A = (all_split P (s A) (s B ++ s C) abc).0
    each B = bc.0
    each C = bc.1
    each D = (all_split P (s D) (s A ++ (s B ++ s C)) h).0

module _ (s : Shape) (same : T (extents_agree (together s))) where
  pub agree : (o : Operand) (c : ℕ) → member c (letters s o) ≡ true → extent_of c (s o) ≡ extent_of c (together s)
  unfolding extents_agree
  agree o c m = first_extent (λ d. extent_of d (together s)) c (s o) (together_all (λ a. a.extent ≡ extent_of a.letter (together s)) s all o) m
    where
      all : All (λ a. a.extent ≡ extent_of a.letter (together s)) (together s)
      all = all_imp (λ a. eqb→eq a.extent (extent_of a.letter (together s))) (together s) (every_all _ (together s) same)
