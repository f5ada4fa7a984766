-- What a call of the tiled engine starts from. Inside contracts only.
-- Assumes nothing.
use Rattle.std.specs.Prelude.{ℕ, ◌≡◌, ◌++◌, Result, IfOk}
use Rattle.refusals.specs.declared.refusal.Refusal.{Refusal}
use Rattle.refusals.specs.Numbers.{status}
use Rattle.contraction.specs.declared.contraction.Contraction.{Contraction}
use Rattle.contraction.specs.Operands.{tensors, shape}
use Rattle.contraction.specs.declared.operands.Operands.{Operands}
use Rattle.contraction.specs.TensorAxes.{Ready}
use Rattle.contraction.specs.declared.contraction.Operand.{Operand}
use Rattle.tensor_answers.specs.Asking.{refusal}
use Rattle.questions.specs.Questions.{layout_questions}
use Rattle.plan.specs.declared.plan.Plan.{Plan}
use Rattle.plan.specs.Plan.{AllFoldable, Planned}
use Rattle.tiles.specs.declared.grid.Sizes.{Sizes}
use Rattle.tile_blocks.specs.Planned.{GridOf, PlanFits}
use Rattle.tile_questions.specs.TileQuestions.{size_question}
use Rattle.accept.specs.declared.accept.Accept.{Accept}

-- the lists of the axes of a contraction that questions 1 to 10 accept: its groups can be folded, and the grid of each of its plans has counts in their
-- limits
pub record Acceptable (c : Contraction) (z : Sizes) (x : Operands) : Type 0 where
  pub ready : Ready c x
  pub foldable : AllFoldable (shape (tensors c))
  pub fits : (p : Plan) → Planned (tensors c) p → PlanFits p z

-- the number that questions 1 to 10 refuse with, and where none refuses the lists
pub record AcceptedOf (c : Contraction) (z : Sizes) (n : Operand → ℕ) (r : Result Operands Refusal) : Type 0 where
  pub number : status r ≡ refusal (layout_questions (tensors c) n ++ size_question z)
  pub lists : IfOk r (Acceptable c z)

-- a contraction that questions 1 to 10 accept: its plan and the grid of its tiles
pub record PlannedIn (c : Contraction) (z : Sizes) (x : Accept) : Type 0 where
  pub plan : Planned (tensors c) x.plan
  pub grid : GridOf x.plan x.grid × (x.grid.sizes ≡ z)

-- the number that questions 1 to 10 refuse with, and where none refuses what the contraction starts from
pub record AcceptOf (c : Contraction) (z : Sizes) (n : Operand → ℕ) (r : Result Accept Refusal) : Type 0 where
  pub number : status r ≡ refusal (layout_questions (tensors c) n ++ size_question z)
  pub planned : IfOk r (PlannedIn c z)
