-- What a tensor answers for itself, and the answers of several joined. Inside contracts only.
-- Assumes nothing.
use Rattle.std.specs.Prelude.{ℕ, min, ◌≡◌, cond, List, [], ◌∷◌, ◌++◌, eqb, Result, IsOk, IfOk}
use Rattle.refusals.specs.declared.refusal.Refusal.{Refusal}
use Rattle.refusals.specs.Numbers.{status}
use Rattle.layout.specs.declared.layout.Layout.{Layout}
use Rattle.contraction.specs.TensorAxes.{ListOf}
use Rattle.tensor_answers.specs.declared.tensor_answers.Asked.{Asked}
use Rattle.tensor_answers.specs.Asking.{refusal}
use Rattle.tensor_answers.specs.OwnQuestions.{Lent, tensor_questions, entries_inside}

-- of two numbers of questions that failed the one that is asked sooner; 0 is none
abbrev pub sooner : ℕ → ℕ → ℕ
sooner m n = cond (eqb m 0) n (cond (eqb n 0) m (min m n))

-- the answers of some tensors and of others joined: the first of questions 1 to 5 that one of them all fails, and where there is none both passed
pub record BothOf {S T U : Type 0} (a : Result S Refusal) (b : Result T Refusal) (r : Result U Refusal) : Type 0 where
  pub number : (xs ys : List Lent) → status a ≡ refusal (tensor_questions xs) → status b ≡ refusal (tensor_questions ys)
      → status r ≡ refusal (tensor_questions (xs ++ ys))
  pub passed : IfOk r (λ _. IsOk a × IsOk b)

-- a tensor's own answer: the first of questions 1 to 5 that it fails
abbrev pub OwnOf : Layout → ℕ → Result (Unit {0}) Refusal → Type 0
OwnOf l n r = status r ≡ refusal (tensor_questions (record { layout = l; words = n } ∷ []))

-- questions 1 to 5 pass of a tensor
abbrev pub Passed : Layout → ℕ → Type 0
Passed l n = refusal (tensor_questions (record { layout = l; words = n } ∷ [])) ≡ 0

-- what such a tensor leaves: the list of its axes, and whether its entries are inside
pub record PassedOf (l : Layout) (n : ℕ) (x : Asked) : Type 0 where
  pub lists : ListOf l x.lists
  pub inside : x.inside ≡ entries_inside (record { layout = l; words = n } ∷ [])

-- a tensor's own answer: the first of questions 1 to 5 that it fails, or what it leaves
pub record AskedOf (l : Layout) (n : ℕ) (r : Result Asked Refusal) : Type 0 where
  pub number : status r ≡ refusal (tensor_questions (record { layout = l; words = n } ∷ []))
  pub passed : IfOk r (PassedOf l n)
