-- What the questions give that passed: each test by name.
-- Assumes nothing.
use mathlib.Core.Path.{◌≡◌}
use mathlib.Core.Bool.{true}
use mathlib.Core.List.{◌++◌}
use Prim.Native.Nat.{ℕ}
use Rattle.layout.specs.declared.layout.Layout.{Layout}
use Rattle.layout.specs.Layout.{axes}
use Rattle.validity.specs.TensorQuestions.{rank_fits, counts_match, letters_valid, extents_valid, sizes_valid}
use Rattle.points.specs.LabelQuestions.{extents_agree, letters_same, points_fit}
use Rattle.entries.specs.EntryQuestions.{inside, apart}
use Rattle.contraction.specs.Operands.{shape, together}
use Rattle.contraction.specs.declared.contraction.Operand.{Operand}
use Rattle.contraction.specs.declared.contraction.Operand.TheVariants.{C, D}
use Rattle.tensor_answers.specs.Asking.{refusal}
use Rattle.tensor_answers.specs.OwnQuestions.{tensor_questions}
use Rattle.questions.specs.Questions.{lent_tensors, label_questions, entry_questions, layout_questions}
use Rattle.tensor_answers.proofs.Refusal.{passed, refusal_both, of_each_lem}

-- questions 1 to 5 pass
pub record EachPassed (t : Operand → Layout) (n : Operand → ℕ) : Type 0 where
  pub ranks : (o : Operand) → rank_fits (t o) ≡ true
  pub counts : (o : Operand) → counts_match (t o) ≡ true
  pub letters : (o : Operand) → letters_valid (axes (t o)) ≡ true
  pub extents : (o : Operand) → extents_valid (axes (t o)) ≡ true
  pub sizes : (o : Operand) → sizes_valid (t o) (n o) ≡ true

-- questions 1 to 9 pass
pub record AllPassed (t : Operand → Layout) (n : Operand → ℕ) : Type 0 where
  pub each : EachPassed t n
  pub agree : extents_agree (together (shape t)) ≡ true
  pub same : letters_same (axes (t C)) (axes (t D)) ≡ true
  pub fit : points_fit (together (shape t)) ≡ true
  pub within : (o : Operand) → inside (axes (t o)) (t o).base (n o) ≡ true
  pub distinct : apart (axes (t D)) ≡ true

-- questions that refuse nothing pass
pub each_passed : (t : Operand → Layout) (n : Operand → ℕ) → refusal (tensor_questions (lent_tensors t n)) ≡ 0 → EachPassed t n
unfolding tensor_questions
each_passed t n e =
    let a = passed (tensor_questions (lent_tensors t n)) tt e in
    record {
      ranks = of_each_lem (λ o. rank_fits (t o)) a.0;
      counts = of_each_lem (λ o. counts_match (t o)) a.1.0;
      letters = of_each_lem (λ o. letters_valid (axes (t o))) a.1.1.0;
      extents = of_each_lem (λ o. extents_valid (axes (t o))) a.1.1.1.0;
      sizes = of_each_lem (λ o. sizes_valid (t o) (n o)) a.1.1.1.1.0;
    }

pub accepted_parts : (t : Operand → Layout) (n : Operand → ℕ) → refusal (layout_questions t n) ≡ 0 → AllPassed t n
unfolding layout_questions tensor_questions label_questions entry_questions
accepted_parts t n e =
    let r = refusal_both (tensor_questions (lent_tensors t n)) (label_questions t n ++ entry_questions t n) tt e in
    let a = passed (label_questions t n ++ entry_questions t n) tt r.1 in
    record {
      each = each_passed t n r.0;
      agree = a.0;
      same = a.1.0;
      fit = a.1.1.0;
      within = of_each_lem (λ o. inside (axes (t o)) (t o).base (n o)) a.1.1.1.0;
      distinct = a.1.1.1.1.0;
    }
