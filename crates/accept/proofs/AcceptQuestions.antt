-- Questions 1 to 10: what the code takes of the slices' lengths, and what they give that passed.
-- Assumes nothing.
use mathlib.Core.Path.{◌≡◌, ap}
use mathlib.Core.Bool.{true}
use mathlib.Core.List.{List, ◌++◌}
use Prim.Native.Nat.{ℕ}
use lib.ListN.{length}
use Rattle.contraction.specs.declared.contraction.Contraction.{Contraction}
use Rattle.contraction.specs.Operands.{four, of_tensors, tensors}
use Rattle.contraction.specs.declared.contraction.Operand.{Operand}
use Rattle.tensor_answers.specs.Asking.{refusal}
use Rattle.tensor_answers.specs.OwnQuestions.{tensor_questions}
use Rattle.questions.specs.Questions.{label_questions, entry_questions, layout_questions}
use Rattle.tensor_answers.proofs.Refusal.{Numbered, passed, refusal_both}
use Rattle.questions.proofs.Ready.{AllPassed, accepted_parts}
use Rattle.meaning.specs.Meaning.{Slices, lengths_in}
use Rattle.tiles.specs.declared.grid.Sizes.{Sizes}
use Rattle.tile_questions.specs.TileQuestions.{sizes_fit, size_question, accept_questions}

-- the number that the code took of the slices' lengths
pub asked : (c : Contraction) (z : Sizes) (w : Slices) {k : ℕ} → k ≡ refusal (layout_questions (tensors c) (lengths_in c w) ++ size_question z)
    → k ≡ refusal (accept_questions c z w)
unfolding accept_questions
asked c z w e = e

-- of D's slice they read the length alone
pub same_questions : (c : Contraction) (z : Sizes) (a b cw d e : List ℕ) → length e ≡ length d
    → refusal (accept_questions c z (four a b cw e)) ≡ refusal (accept_questions c z (four a b cw d))
unfolding accept_questions
same_questions c z a b cw d e same =
    ap (λ (n : ℕ). refusal (layout_questions (tensors c) (of_tensors c (length a) (length b) (length cw) n) ++ size_question z)) same

module _ (c : Contraction) (z : Sizes) (w : Slices) where
  -- none of their numbers is 0
  pub numbered : Numbered (accept_questions c z w)
  unfolding accept_questions layout_questions tensor_questions label_questions entry_questions size_question
  numbered = tt

  pub accepted : refusal (accept_questions c z w) ≡ 0 → AllPassed (tensors c) (lengths_in c w) × (sizes_fit z ≡ true)
  unfolding accept_questions layout_questions tensor_questions label_questions entry_questions size_question
  accepted e =
      let n : Operand → ℕ = lengths_in c w in
      let both = refusal_both (layout_questions (tensors c) n) (size_question z) tt e in
      (accepted_parts (tensors c) n both.0, (passed (size_question z) tt both.1).0)
