-- A tensor of which questions 1 to 5 passed: each test by name.
-- Assumes nothing.
use mathlib.Core.Path.{◌≡◌, refl}
use mathlib.Core.Bool.{Bool, true, false, ◌&&◌}
use mathlib.Core.List.{[], ◌∷◌}
use Prim.Native.Nat.{ℕ}
use Rattle.layout.specs.declared.layout.Layout.{Layout}
use Rattle.layout.specs.Layout.{axes}
use Rattle.validity.specs.TensorQuestions.{rank_fits, letters_valid, extents_valid, sizes_valid}
use Rattle.tensor_answers.specs.OwnQuestions.{tensor_questions}
use Rattle.tensor_answers.specs.Answers.{Passed}
use Rattle.tensor_answers.proofs.Refusal.{passed}

pub record OwnPassed (l : Layout) (n : ℕ) : Type 0 where
  pub rank : rank_fits l ≡ true
  pub letters : letters_valid (axes l) ≡ true
  pub extents : extents_valid (axes l) ≡ true
  pub sizes : sizes_valid l n ≡ true

-- the only one of a list passes where all of it do
alone : (b : Bool) → (b && true) ≡ true → b ≡ true
alone true e = refl
alone false e = e

pub own_passed : (l : Layout) (n : ℕ) → Passed l n → OwnPassed l n
unfolding tensor_questions
own_passed l n e =
    let a = passed (tensor_questions (record { layout = l; words = n } ∷ [])) tt e in
    record {
      rank = alone (rank_fits l) a.0;
      letters = alone (letters_valid (axes l)) a.1.1.0;
      extents = alone (extents_valid (axes l)) a.1.1.1.0;
      sizes = alone (sizes_valid l n) a.1.1.1.1.0;
    }
