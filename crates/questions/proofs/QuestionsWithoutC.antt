-- Where C is not named D stands for it: what D answers twice it answers once, its axes add no label and no extent behind those of all, and its letters are its
-- own.
-- Assumes nothing.
use mathlib.Core.Path.{◌≡◌, refl, sym, ap, ◌∙◌}
use mathlib.Core.Bool.{Bool, true, false, ◌&&◌}
use mathlib.Core.List.{List, [], ◌∷◌, ◌++◌, append-nil, append_assoc}
use Prim.Native.Nat.{ℕ, max}
use lib.Dec.{eqb, leb}
use Rattle.words.specs.Sums.{product, every}
use Rattle.words.proofs.Lists.{all_of}
use Rattle.words.proofs.Sums.{every_and, every_same}
use Rattle.limits.specs.Limits.{product_limit}
use Rattle.layout.specs.declared.layout.Axis.{Axis}
use Rattle.layout.specs.Layout.{axes}
use Rattle.validity.specs.TensorQuestions.{rank_fits, counts_match, letters_valid, extents_valid, sizes_valid}
use Rattle.labels.specs.Labels.{extent_of, labels}
use Rattle.points.specs.LabelQuestions.{extents_agree, points, points_fit}
use Rattle.points.proofs.SameLetters.{same_itself}
use Rattle.entries.specs.EntryQuestions.{inside, apart}
use Rattle.contraction.specs.Operands.{together}
use Rattle.contraction.proofs.Again.{labels_again, extent_again}
use Rattle.tensor_answers.specs.Asking.{ask, refusal}
use Rattle.tensor_answers.specs.OwnQuestions.{Lent, tensor_questions}
use Rattle.questions.specs.Questions.{label_questions, entry_questions, layout_questions}
use Rattle.questions.specs.QuestionsWithoutC.{three_questions, QuestionsWithoutC}

-- the last answer once more
again : (p q r : Bool) → (p && (q && (r && (r && true)))) ≡ (p && (q && (r && true)))
again p q true = refl
again p q false = refl

module _ (d a b : List Axis) where
  extent_same : (c : ℕ) → extent_of c (d ++ (a ++ (b ++ d))) ≡ extent_of c (d ++ (a ++ b))
  extent_same c = rw (← append_assoc a b d) (sym (extent_again c d (a ++ b)) ∙ ap (λ (xs : List Axis). extent_of c (d ++ xs)) (append-nil (a ++ b)))

  labels_same : labels (d ++ (a ++ (b ++ d))) ≡ labels (d ++ (a ++ b))
  labels_same = rw (← append_assoc a b d, ← append_assoc d (a ++ b) d) (labels_again d (a ++ b))

  -- a test of each axis
  every_once : (p : Axis → Bool) → every p (d ++ (a ++ (b ++ d))) ≡ every p (d ++ (a ++ b))
  every_once p =
      every_and p d (a ++ (b ++ d)) ∙ ap (λ (x : Bool). every p d && x) (every_and p a (b ++ d) ∙ ap (λ (x : Bool). every p a && x) (every_and p b d))
      ∙ once (every p d) (every p a) (every p b)
      ∙ sym (every_and p d (a ++ b) ∙ ap (λ (x : Bool). every p d && x) (every_and p a b))
    where
      once : (x y z : Bool) → (x && (y && (z && x))) ≡ (x && (y && z))
      once true true true = refl
      once true true false = refl
      once true false z = refl
      once false y z = refl

  agree_same : extents_agree (d ++ (a ++ (b ++ d))) ≡ extents_agree (d ++ (a ++ b))
  unfolding extents_agree
  agree_same =
      every_once (λ x. eqb x.extent (extent_of x.letter (d ++ (a ++ (b ++ d)))))
      ∙ every_same (λ x. eqb x.extent (extent_of x.letter (d ++ (a ++ (b ++ d))))) (λ x. eqb x.extent (extent_of x.letter (d ++ (a ++ b)))) (d ++ (a ++ b))
      (all_of (λ x. ap (eqb x.extent) (extent_same x.letter)) (d ++ (a ++ b)))

  fit_same : points_fit (d ++ (a ++ (b ++ d))) ≡ points_fit (d ++ (a ++ b))
  unfolding points_fit points
  fit_same =
      ap (λ (cs : List ℕ). leb (product (λ c. max 1 (extent_of c (d ++ (a ++ (b ++ d))))) cs) product_limit) labels_same
      ∙ ap (λ (n : ℕ). leb n product_limit) (factors (labels (d ++ (a ++ b))))
    where
      factors : (cs : List ℕ) → product (λ c. max 1 (extent_of c (d ++ (a ++ (b ++ d))))) cs ≡ product (λ c. max 1 (extent_of c (d ++ (a ++ b)))) cs
      factors [] = refl
      factors (c ∷ cs) = rw (extent_same c, factors cs)

pub questions_without_c : QuestionsWithoutC
unfolding layout_questions label_questions entry_questions tensor_questions three_questions together
questions_without_c a b d na nb nd = λ i.
    refusal
    (ask 1 (once (λ x. rank_fits x.layout) i)
    ∷ ask 2 (once (λ x. counts_match x.layout) i)
    ∷ ask 3 (once (λ x. letters_valid (axes x.layout)) i)
    ∷ ask 4 (once (λ x. extents_valid (axes x.layout)) i)
    ∷ ask 5 (once (λ x. sizes_valid x.layout x.words) i)
    ∷ ask 6 (agree_same (axes d) (axes a) (axes b) i)
    ∷ ask 30 (same_itself (axes d) i)
    ∷ ask 7 (fit_same (axes d) (axes a) (axes b) i)
    ∷ ask 8 (once (λ x. inside (axes x.layout) x.layout.base x.words) i)
    ∷ ask 9 (apart (axes d))
    ∷ [])
  where
    last : Lent
    last = record { layout = d; words = nd }

    -- a question that each tensor answers for itself
    once : (p : Lent → Bool)
        → (p (record { layout = a; words = na }) && (p (record { layout = b; words = nb }) && (p last && (p last && true))))
        ≡ (p (record { layout = a; words = na }) && (p (record { layout = b; words = nb }) && (p last && true)))
    once p = again (p (record { layout = a; words = na })) (p (record { layout = b; words = nb })) (p last)
