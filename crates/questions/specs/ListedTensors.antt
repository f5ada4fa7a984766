-- What questions 1 to 9 leave. Inside contracts only.
-- Assumes nothing.
use Rattle.std.specs.Prelude.{ℕ, ◌≡◌, Result, IfOk}
use Rattle.refusals.specs.declared.refusal.Refusal.{Refusal}
use Rattle.refusals.specs.Numbers.{status}
use Rattle.contraction.specs.declared.contraction.Contraction.{Contraction}
use Rattle.contraction.specs.declared.operands.Operands.{Operands}
use Rattle.contraction.specs.Operands.{tensors}
use Rattle.contraction.specs.declared.contraction.Operand.{Operand}
use Rattle.contraction.specs.TensorAxes.{Ready}
use Rattle.tensor_answers.specs.Asking.{refusal}
use Rattle.questions.specs.Questions.{layout_questions}

-- the number that questions 1 to 9 refuse with, and where none refuses the lists of the axes of each tensor, and the letters of all
pub record ListedOf (c : Contraction) (n : Operand → ℕ) (r : Result Operands Refusal) : Type 0 where
  pub number : status r ≡ refusal (layout_questions (tensors c) n)
  pub lists : IfOk r (Ready c)
