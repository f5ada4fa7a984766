-- The answers of tensors joined: a question that is put to several tensors passes where each passes, so that the first one to fail is the sooner of
-- those that fail of some and of the others.
-- Assumes nothing.
use mathlib.Core.Path.{◌≡◌, refl, sym, ◌∙◌}
use mathlib.Core.Bool.{Bool, true, false, cond, ◌&&◌}
use mathlib.Core.List.{List, ◌++◌}
use Prim.Native.Nat.{ℕ, ◌<◌, ◌≤◌, min}
use native.Mathlib.Nat.{min-eq_left, min-eq_right}
use native.Mathlib.Decide.{ℕ_discrete}
use native.Mathlib.Omega.{arith}
use lib.Dec.{eqb}
use borrow.Author.Tests.{eq-eqb, ne_eqb}
use Rattle.words.specs.Sums.{every}
use Rattle.words.proofs.Sums.{every_and}
use Rattle.layout.specs.Layout.{axes}
use Rattle.validity.specs.TensorQuestions.{rank_fits, counts_match, letters_valid, extents_valid, sizes_valid}
use Rattle.tensor_answers.specs.Asking.{refusal}
use Rattle.tensor_answers.specs.OwnQuestions.{Lent, tensor_questions}
use Rattle.tensor_answers.specs.Answers.{sooner}

-- none, or asked after question k
abbrev Later : ℕ → ℕ → Type 0
Later k n = (n ≡ 0 → ⊥) → k < n

-- r is the sooner of a and b, which are asked after question k
record Joins (k r a b : ℕ) : Type 0 where
  joined : r ≡ sooner a b
  later_a : Later k a
  later_b : Later k b

module _ (k : ℕ) (h : 0 < k) where
  not_zero : k ≡ 0 → ⊥
  not_zero e = absurd (omega arith)

  -- question k fails of one of two
  first_left : (n : ℕ) → Later k n → k ≡ sooner k n
  first_left n l = rw (ne_eqb k 0 not_zero) (go (ℕ_discrete n 0))
    where
      go : Dec (n ≡ 0) → k ≡ cond (eqb n 0) k (min k n)
      go (yes e) = rw (eq-eqb n 0 e)
      go (no e) = let b : k ≤ n = omega (arith, l e) in rw (ne_eqb n 0 e, min-eq_left b)

  first_right : (n : ℕ) → Later k n → k ≡ sooner n k
  first_right n l = go (ℕ_discrete n 0)
    where
      go : Dec (n ≡ 0) → k ≡ cond (eqb n 0) k (cond (eqb k 0) n (min n k))
      go (yes e) = rw (eq-eqb n 0 e)
      go (no e) = let b : k ≤ n = omega (arith, l e) in rw (ne_eqb n 0 e, ne_eqb k 0 not_zero, min-eq_right b)

  -- of both
  first_both : k ≡ sooner k k
  first_both = let b : k ≤ k = omega arith in rw (ne_eqb k 0 not_zero, min-eq_left b)

  -- one question before others
  before : (a b : Bool) {j r m n : ℕ} → j < k → Joins k r m n → Joins j (cond (a && b) r k) (cond a m k) (cond b n k)
  before true true l q = record { joined = q.joined; later_a = λ e. omega (arith, q.later_a e); later_b = λ e. omega (arith, q.later_b e) }
  before true false {m = m} l q = record { joined = first_right m q.later_a; later_a = λ e. omega (arith, q.later_a e); later_b = λ e. l }
  before false true {n = n} l q = record { joined = first_left n q.later_b; later_a = λ e. l; later_b = λ e. omega (arith, q.later_b e) }
  before false false l q = record { joined = first_both; later_a = λ e. l; later_b = λ e. l }

none_fails : Joins 5 0 0 0
none_fails = record { joined = refl; later_a = λ e. absurd (e refl); later_b = λ e. absurd (e refl) }

pub joined_refusal : (xs ys : List Lent) → refusal (tensor_questions (xs ++ ys)) ≡ sooner (refusal (tensor_questions xs)) (refusal (tensor_questions ys))
unfolding tensor_questions
joined_refusal xs ys =
    rw (every_and ranks xs ys, every_and counts xs ys, every_and letters xs ys, every_and extents xs ys, every_and sizes xs ys)
    (put 1 0 (omega arith) (omega arith) ranks
    (put 2 1 (omega arith) (omega arith) counts
    (put 3 2 (omega arith) (omega arith) letters
    (put 4 3 (omega arith) (omega arith) extents
    (put 5 4 (omega arith) (omega arith) sizes none_fails))))).joined
  where
    ranks : Lent → Bool
    ranks x = rank_fits x.layout

    counts : Lent → Bool
    counts x = counts_match x.layout

    letters : Lent → Bool
    letters x = letters_valid (axes x.layout)

    extents : Lent → Bool
    extents x = extents_valid (axes x.layout)

    sizes : Lent → Bool
    sizes x = sizes_valid x.layout x.words

    put : (k j : ℕ) → 0 < k → j < k → (p : Lent → Bool) → {r m n : ℕ} → Joins k r m n
        → Joins j (cond (every p xs && every p ys) r k) (cond (every p xs) m k) (cond (every p ys) n k)
    put k j h l p q = before k h (every p xs) (every p ys) l q

-- where no question fails of all, none fails of some nor of the others
pub joined_none : (xs ys : List Lent) → refusal (tensor_questions (xs ++ ys)) ≡ 0 → (refusal (tensor_questions xs) ≡ 0) × (refusal (tensor_questions ys) ≡ 0)
joined_none xs ys e = go (refusal (tensor_questions xs)) (refusal (tensor_questions ys)) (sym (joined_refusal xs ys) ∙ e)
  where
    go : (m n : ℕ) → sooner m n ≡ 0 → (m ≡ 0) × (n ≡ 0)
    go m n z = left (ℕ_discrete m 0) (ℕ_discrete n 0)
      where
        left : Dec (m ≡ 0) → Dec (n ≡ 0) → (m ≡ 0) × (n ≡ 0)
        left (yes a) b = (a, rw (eq-eqb m 0 a) at z)
        left (no a) (yes b) = absurd (a (rw (ne_eqb m 0 a, eq-eqb n 0 b) at z))
        left (no a) (no b) = let s : min m n ≡ 0 = rw (ne_eqb m 0 a, ne_eqb n 0 b) at z in absurd (omega (arith, s, a, b))
