-- The plan and the grid of an accepted contraction.
-- Assumes nothing.
use mathlib.Core.Path.{◌≡◌, sym, ap, ◌∙◌}
use mathlib.Core.List.{◌++◌}
use Prim.Native.Nat.{ℕ}
use Rattle.contraction.specs.declared.contraction.Contraction.{Contraction}
use Rattle.contraction.specs.Operands.{tensors}
use Rattle.tensor_answers.specs.Asking.{refusal}
use Rattle.questions.specs.Questions.{layout_questions}
use Rattle.meaning.specs.Meaning.{Slices, lengths_in}
use Rattle.plan.specs.declared.plan.Plan.{Plan}
use Rattle.plan.specs.Plan.{Planned}
use Rattle.tiles.specs.declared.grid.Sizes.{Sizes}
use Rattle.tiles.specs.declared.grid.Grid.{Grid}
use Rattle.tiles.specs.Grid.{cut_in}
use Rattle.tile_blocks.specs.ContractionInTiles.{cut_of}
use Rattle.tile_blocks.specs.Planned.{plan_cut, GridOf}
use Rattle.tile_questions.specs.TileQuestions.{size_question, accept_questions}
use Rattle.accept.proofs.AcceptQuestions.{asked, accepted}
use Rattle.accept.proofs.Reaches.{plan_cut_lem}

-- k is the number that `accept` answered
module _ (c : Contraction) (z : Sizes) (w : Slices) {k : ℕ} (e : k ≡ refusal (layout_questions (tensors c) (lengths_in c w) ++ size_question z)) (y : k ≡ 0) where
  pub none_refused : refusal (accept_questions c z w) ≡ 0
  none_refused = sym (asked c z w e) ∙ y

  -- the grid's cut is the contraction's
  pub grid_cut : (p : Plan) → Planned (tensors c) p → (g : Grid) → GridOf p g × (g.sizes ≡ z) → cut_in g ≡ cut_of c z
  grid_cut p q g (o, s) = o.same ∙ ap (plan_cut p) s ∙ plan_cut_lem c (lengths_in c w) (accepted c z w none_refused).0 p q z
