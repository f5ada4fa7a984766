-- `accepted` meets its contract: question 10 is asked where 1 to 9 refuse nothing, and where none of the ten does, the labels can be folded and the
-- grid's counts are in their limits.
-- Assumes nothing.
use mathlib.Core.Path.{◌≡◌, sym, subst}
use mathlib.Core.Bool.{true}
use mathlib.Core.List.{◌++◌}
use Prim.Native.Nat.{ℕ}
use Rattle.std.proofs.Common.{rules}
use Rattle.std.specs.Prelude.{Result, IsErrAnd}
use Rattle.refusals.specs.declared.refusal.Refusal.{Refusal}
use Rattle.refusals.specs.Numbers.{number}
use Rattle.refusals.proofs.Numbers.{errs}
use Rattle.contraction.specs.declared.contraction.Contraction.{Contraction}
use Rattle.contraction.specs.Operands.{tensors, lengths}
use Rattle.contraction.specs.declared.contraction.Operand.{Operand}
use Rattle.contraction.specs.declared.operands.Operands.{Operands}
use Rattle.tensor_answers.specs.Asking.{refusal}
use Rattle.tensor_answers.specs.OwnQuestions.{tensor_questions}
use Rattle.questions.specs.Questions.{label_questions, entry_questions, layout_questions}
use Rattle.tensor_answers.proofs.Refusal.{Numbered, passed, refusal_both, refused_by, passed_then}
use Rattle.questions.proofs.Ready.{AllPassed, accepted_parts}
use Rattle.plan.proofs.GroupsFoldable.{all_foldable}
use Rattle.tiles.specs.declared.grid.Sizes.{Sizes}
use Rattle.tile_questions.specs.TileQuestions.{sizes_fit, size_question}
use Rattle.accept.specs.Accept.{AcceptedOf}
use Rattle.accept.proofs.Reaches.{plan_fits}
use Rattle.accept.proofs.accept.accepted.Goals as goal

module _ (c : Contraction) (n : Operand → ℕ) where
  numbered : Numbered (layout_questions (tensors c) n)
  unfolding layout_questions tensor_questions label_questions entry_questions
  numbered = tt

  -- where questions 1 to 10 refuse nothing
  module _ (z : Sizes) (e : refusal (layout_questions (tensors c) n ++ size_question z) ≡ 0) where
    nine : refusal (layout_questions (tensors c) n) ≡ 0
    nine = (refusal_both (layout_questions (tensors c) n) (size_question z) numbered e).0

    all_passed : AllPassed (tensors c) n
    all_passed = accepted_parts (tensors c) n nine

    sizes_pass : sizes_fit z ≡ true
    unfolding size_question
    sizes_pass = (passed (size_question z) tt (refusal_both (layout_questions (tensors c) n) (size_question z) numbered e).1).0

  -- one of the first nine refuses
  nine_refuses : (z : Sizes) (e : Refusal) → number e ≡ refusal (layout_questions (tensors c) n) → number e ≡ refusal (layout_questions (tensors c) n ++ size_question z)
  nine_refuses z e h = refused_by (layout_questions (tensors c) n) (size_question z) e h

  -- none does, and the tenth is asked
  tenth : (z : Sizes) → 0 ≡ refusal (layout_questions (tensors c) n) → {m : ℕ} → m ≡ refusal (size_question z) → m ≡ refusal (layout_questions (tensors c) n ++ size_question z)
  tenth z h e = passed_then (layout_questions (tensors c) n) (size_question z) numbered h e

  -- refused by what a `?` handed on
  refused : (z : Sizes) (e : Refusal) (r : Result Operands Refusal) → IsErrAnd r (λ y. y ≡ e) → number e ≡ refusal (layout_questions (tensors c) n ++ size_question z)
      → AcceptedOf c z n r
  refused z e r h m = subst (AcceptedOf c z n) (sym (errs r h)) (record { number = m; lists = tt })

pub returns-in_err-lists : goal.returns-in_err-lists
returns-in_err-lists c =
    let a = c.args in
    let n = lengths a.c.now a.n in
    let e = c.in_err-lists.field-0.0 in
    refused a.c.now n a.z e c.from_residual.result c.from_residual.ensures.1 (nine_refuses a.c.now n a.z e (search rules))

pub returns-in_err-size_refusal : goal.returns-in_err-size_refusal
returns-in_err-size_refusal c =
    let a = c.args in
    let n = lengths a.c.now a.n in
    let e = c.in_err-size_refusal.field-0.0 in
    refused a.c.now n a.z e c.from_residual-in_err-size_refusal.result c.from_residual-in_err-size_refusal.ensures.1
    (tenth a.c.now n a.z c.in_ok-lists.ensures.number c.in_err-size_refusal.ensures)

pub returns : goal.returns
returns c =
    let a = c.args in
    let n = lengths a.c.now a.n in
    let e = tenth a.c.now n a.z c.in_ok-lists.ensures.number c.in_ok-size_refusal.ensures in
    let ok = all_passed a.c.now n a.z (sym e) in
    record {
      number = e;
      lists = record {
        ready = c.in_ok-lists.ensures.lists;
        foldable = all_foldable (tensors a.c.now) n ok;
        fits = λ p q. plan_fits a.c.now n ok p q a.z (sizes_pass a.c.now n a.z (sym e));
      };
    }
