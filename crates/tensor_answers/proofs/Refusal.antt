-- Laws of a list of questions: what its refusal says of each question, the refusal of two lists one behind the other, a question that is
-- put to every tensor, and an answer by the refusal. Another tensor is one clause more in `of_each_lem`.
-- Assumes nothing.
use mathlib.Core.Path.{◌≡◌, refl, sym, ap, ◌∙◌}
use mathlib.Core.Bool.{Bool, true, false, cond}
use mathlib.Core.List.{List, [], ◌∷◌, ◌++◌}
use Prim.Native.Nat.{ℕ, ◌<◌}
use native.Mathlib.Omega.{arith}
use lib.Dec.{T, eqb, ltb, ltb→lt}
use borrow.Author.Tests.{eq-eqb, ne_eqb}
use Rattle.words.specs.Sums.{every, All}
use Rattle.words.proofs.Lists.{T_true}
use Rattle.words.proofs.Sums.{and_split, every_all}
use Rattle.contraction.specs.Operands.{operands}
use Rattle.contraction.specs.declared.contraction.Operand.{Operand}
use Rattle.contraction.specs.declared.contraction.Operand.TheVariants.{A, B, C, D}
use Rattle.refusals.specs.declared.refusal.Refusal.{Refusal}
use Rattle.refusals.specs.Numbers.{number}
use Rattle.refusals.proofs.Numbers.{number_above}
use Rattle.tensor_answers.specs.Asking.{Question, refusal}

-- every question's number is above 0, so that 0 says that none failed
abbrev pub Numbered : List Question → Type 0
Numbered qs = T (every (λ q. ltb 0 q.number) qs)

module _ (q : Question) (qs : List Question) (k : Numbered (q ∷ qs)) where
  above : 0 < q.number
  above = ltb→lt 0 q.number (and_split (ltb 0 q.number) (every (λ q. ltb 0 q.number) qs) k).0

  others : Numbered qs
  others = (and_split (ltb 0 q.number) (every (λ q. ltb 0 q.number) qs) k).1

  -- where nothing is refused, the first question passes and the others refuse nothing
  first_passes : (n : ℕ) → cond q.passes n q.number ≡ 0 → (q.passes ≡ true) × (n ≡ 0)
  first_passes n e = go q.passes above e
    where
      go : (b : Bool) → 0 < q.number → cond b n q.number ≡ 0 → (b ≡ true) × (n ≡ 0)
      go true h e = (refl, e)
      go false h e = absurd (omega arith)

-- questions of which none is refused pass
pub passed : (qs : List Question) → Numbered qs → refusal qs ≡ 0 → All (λ q. q.passes ≡ true) qs
passed [] k e = tt
passed (q ∷ qs) k e = let h = first_passes q qs k (refusal qs) e in (h.0, passed qs (others q qs k) h.1)

-- where the first list refuses nothing, the second is asked
pub refusal_next : (xs ys : List Question) → Numbered xs → refusal xs ≡ 0 → refusal (xs ++ ys) ≡ refusal ys
refusal_next [] ys k e = refl
refusal_next (x ∷ xs) ys k e = let h = first_passes x xs k (refusal xs) e in rw (h.0, refusal_next xs ys (others x xs k) h.1)

-- where one of them fails, its number is the answer
pub refusal_first : (xs ys : List Question) → (refusal xs ≡ 0 → ⊥) → refusal (xs ++ ys) ≡ refusal xs
refusal_first [] ys h = absurd (h refl)
refusal_first (x ∷ xs) ys h = go x.passes h (refusal_first xs ys)
  where
    go : (b : Bool) → (cond b (refusal xs) x.number ≡ 0 → ⊥) → ((refusal xs ≡ 0 → ⊥) → refusal (xs ++ ys) ≡ refusal xs)
        → cond b (refusal (xs ++ ys)) x.number ≡ cond b (refusal xs) x.number
    go true h r = r h
    go false h r = refl

-- two lists that refuse nothing together refuse nothing each
pub refusal_both : (xs ys : List Question) → Numbered xs → refusal (xs ++ ys) ≡ 0 → (refusal xs ≡ 0) × (refusal ys ≡ 0)
refusal_both [] ys k e = (refl, e)
refusal_both (x ∷ xs) ys k e =
    let h = first_passes x xs k (refusal (xs ++ ys)) e in
    let r = refusal_both xs ys (others x xs k) h.1 in
    (rw h.0 r.0, r.1)

-- a question that passes of every tensor of a contraction passes of each
pub of_each_lem : (p : Operand → Bool) → every p operands ≡ true → (o : Operand) → p o ≡ true
of_each_lem p e o = T_true (p o) (at o)
  where
    each : All (λ o. T (p o)) operands
    each = every_all p operands (rw e tt)

    at : (o : Operand) → T (p o)
    at A = each.0
    at B = each.1.0
    at C = each.1.1.0
    at D = each.1.1.1.0

-- a call whose questions refuse with the number n answers x where that is 0, else f n
module _ {X : Type 0} (x : X) (f : ℕ → X) {n : ℕ} where
  pub answers_no : {k : ℕ} → n ≡ k → (k ≡ 0 → ⊥) → f k ≡ cond (eqb n 0) x (f n)
  answers_no e h = let no : n ≡ 0 → ⊥ = λ z. h (sym e ∙ z) in rw (ne_eqb n 0 no) (ap f (sym e))

  pub answers_yes : n ≡ 0 → x ≡ cond (eqb n 0) x (f n)
  answers_yes e = rw (eq-eqb n 0 e)

-- where a refusal has the number of the first list, it has that of both, one behind the other
pub refused_by : (xs ys : List Question) (e : Refusal) → number e ≡ refusal xs → number e ≡ refusal (xs ++ ys)
refused_by xs ys e h = h ∙ sym (refusal_first xs ys (λ z. absurd (omega (arith, number_above e, h, z))))

-- where the first list refuses nothing, the number is that of the second
pub passed_then : (xs ys : List Question) → Numbered xs → 0 ≡ refusal xs → {n : ℕ} → n ≡ refusal ys → n ≡ refusal (xs ++ ys)
passed_then xs ys k z e = e ∙ sym (refusal_next xs ys k (sym z))
