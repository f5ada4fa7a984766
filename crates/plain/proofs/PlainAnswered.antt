-- What a call answers and leaves, where a question refused and where all passed.
-- Assumes nothing.
use mathlib.Core.Path.{◌≡◌, sym, ap, ◌∙◌}
use Rattle.std.specs.Prelude.{Result, IsErrAnd}
use Rattle.refusals.specs.declared.refusal.Refusal.{Refusal}
use Rattle.refusals.specs.Numbers.{number}
use Rattle.refusals.proofs.Numbers.{not_0, errs}
use Rattle.contraction.specs.declared.contraction.Contraction.{Contraction}
use Rattle.contraction.specs.declared.contraction.Operand.TheVariants.{D}
use Rattle.tensor_answers.proofs.Refusal.{answers_no, answers_yes}
use Rattle.meaning.specs.Meaning.{Slices, first_no, result}
use Rattle.answers.specs.PlainAnswer.{plain_done, plain_refused, plain_answer, plain_call_of}
use Rattle.plain.specs.PlainCall.{plain_call}

module _ (c : Contraction) (w : Slices) where
  -- a question refused, and a `?` handed the refusal on
  pub call_refused : (e : Refusal) (r : Result (Unit {0}) Refusal) → IsErrAnd r (λ y. y ≡ e) → number e ≡ first_no c w
      → plain_call_of (plain_answer r) (w D) ≡ plain_call c w
  unfolding plain_call
  call_refused e r h n =
      ap (λ (x : Result (Unit {0}) Refusal). plain_call_of (plain_answer x) (w D)) (errs r h)
      ∙ answers_no (plain_call_of plain_done (result c w)) (λ m. plain_call_of (plain_refused m) (w D)) (sym n) (not_0 e)

  pub call_done : first_no c w ≡ 0 → plain_call_of plain_done (result c w) ≡ plain_call c w
  unfolding plain_call
  call_done h = answers_yes (plain_call_of plain_done (result c w)) (λ n. plain_call_of (plain_refused n) (w D)) h
