-- Of two of questions 1 to 5 the lesser refusal is the one with the lesser number; and what that says of two answers joined.
-- Assumes nothing.
use mathlib.Core.Path.{◌≡◌, refl, sym, ap, ◌∙◌}
use mathlib.Core.Bool.{Bool, true, false, cond}
use mathlib.Core.List.{List, [], ◌∷◌, ◌++◌}
use Prim.Native.Nat.{ℕ, ◌≤◌}
use native.Mathlib.Decide.{ℕ_discrete}
use native.Mathlib.Omega.{arith}
use borrow.Author.Tests.{eq-eqb, ne_eqb}
use Rattle.std.specs.Ordering.{ord_min}
use Rattle.std.specs.Prelude.{Result, Err}
use Rattle.words.specs.Sums.{All}
use Rattle.refusals.specs.declared.refusal.Refusal.{Refusal}
use Rattle.refusals.specs.declared.refusal.Refusal.TheVariants.{Rank, Counts, Letters, Extents, Sizes, ExtentsAgree, LettersOfC, Points, Inside, Apart, TileSizes, WorkRoom, TilesDone, Index, Mark, CutShort, BytesBehind, WordCount, Lags, Samples}
use Rattle.refusals.specs.Numbers.{number, status}
use Rattle.tensor_answers.specs.Asking.{Question, refusal}
use Rattle.tensor_answers.specs.OwnQuestions.{Lent, tensor_questions}
use Rattle.tensor_answers.specs.Answers.{sooner, BothOf}
use Rattle.tensor_answers.proofs.Joined.{joined_refusal}

-- what holds of questions 1 to 5 holds of one whose number is at most 5
own : (P : Refusal → Type 0) → P Rank → P Counts → P Letters → P Extents → P Sizes → (a : Refusal) → number a ≤ 5 → P a
own P one two three four five =
    elim [
      | Rank ↦ λ h. one
      | Counts ↦ λ h. two
      | Letters ↦ λ h. three
      | Extents ↦ λ h. four
      | Sizes ↦ λ h. five
      | ExtentsAgree ↦ λ h. absurd (omega (arith, h))
      | LettersOfC ↦ λ h. absurd (omega (arith, h))
      | Points ↦ λ h. absurd (omega (arith, h))
      | Inside ↦ λ h. absurd (omega (arith, h))
      | Apart ↦ λ h. absurd (omega (arith, h))
      | TileSizes ↦ λ h. absurd (omega (arith, h))
      | WorkRoom ↦ λ h. absurd (omega (arith, h))
      | TilesDone ↦ λ h. absurd (omega (arith, h))
      | Index ↦ λ h. absurd (omega (arith, h))
      | Mark ↦ λ h. absurd (omega (arith, h))
      | CutShort ↦ λ h. absurd (omega (arith, h))
      | BytesBehind ↦ λ h. absurd (omega (arith, h))
      | WordCount ↦ λ h. absurd (omega (arith, h))
      | Lags ↦ λ h. absurd (omega (arith, h))
      | Samples ↦ λ h. absurd (omega (arith, h))
    ]

abbrev least : Refusal → Refusal → Refusal
least a b = ord_min Rattle.refusals.specs.contracts.refusal.RefusalOrd.TheImpl.cmp-value.it a b

abbrev Agrees : Refusal → Refusal → Type 0
Agrees a b = number (least a b) ≡ sooner (number a) (number b)

least_sooner : (a : Refusal) → number a ≤ 5 → (b : Refusal) → number b ≤ 5 → Agrees a b
least_sooner =
    own (λ a. (b : Refusal) → number b ≤ 5 → Agrees a b)
    (own (Agrees Rank) refl refl refl refl refl)
    (own (Agrees Counts) refl refl refl refl refl)
    (own (Agrees Letters) refl refl refl refl refl)
    (own (Agrees Extents) refl refl refl refl refl)
    (own (Agrees Sizes) refl refl refl refl refl)

-- the number of a tensor's own refusal is at most 5
own_number : (xs : List Lent) → refusal (tensor_questions xs) ≤ 5
unfolding tensor_questions
own_number xs = most (tensor_questions xs) (omega arith, (omega arith, (omega arith, (omega arith, (omega arith, tt)))))
  where
    most : (qs : List Question) → All (λ q. q.number ≤ 5) qs → refusal qs ≤ 5
    most [] h = omega arith
    most (q ∷ qs) h = or q.passes (most qs h.1)
      where
        or : (b : Bool) → refusal qs ≤ 5 → cond b (refusal qs) q.number ≤ 5
        or true k = k
        or false k = h.0

module _ (xs ys : List Lent) {m n : ℕ} (e : m ≡ refusal (tensor_questions xs)) (f : n ≡ refusal (tensor_questions ys)) where
  both_number : sooner m n ≡ refusal (tensor_questions (xs ++ ys))
  both_number = (λ i. sooner (e i) (f i)) ∙ sym (joined_refusal xs ys)

-- the first passes, or the second, or none
pub first_passes : (xs ys : List Lent) {n : ℕ} → 0 ≡ refusal (tensor_questions xs) → n ≡ refusal (tensor_questions ys) → n ≡ refusal (tensor_questions (xs ++ ys))
first_passes xs ys e f = both_number xs ys e f

pub second_passes : (xs ys : List Lent) {m : ℕ} → m ≡ refusal (tensor_questions xs) → 0 ≡ refusal (tensor_questions ys) → m ≡ refusal (tensor_questions (xs ++ ys))
second_passes xs ys {m} e f = go (ℕ_discrete m 0) ∙ both_number xs ys e f
  where
    go : Dec (m ≡ 0) → m ≡ sooner m 0
    go (yes z) = rw (eq-eqb m 0 z) z
    go (no z) = rw (ne_eqb m 0 z) refl

-- both fail: the lesser of two refusals is the one of the sooner question
pub both_fail : {S T U : Type 0} (first second : Refusal) {a : Result S Refusal} {b : Result T Refusal} {r : Refusal} → a ≡ Err first → b ≡ Err second → r ≡ least first second
    → BothOf {U = U} a b (Err r)
both_fail first second p q h =
    record {
      number =
          λ xs ys e f.
          let m : number first ≡ refusal (tensor_questions xs) = ap status (sym p) ∙ e in
          let n : number second ≡ refusal (tensor_questions ys) = ap status (sym q) ∙ f in
          ap number h ∙ least_sooner first (omega (arith, m, own_number xs)) second (omega (arith, n, own_number ys)) ∙ both_number xs ys m n;
      passed = tt;
    }
