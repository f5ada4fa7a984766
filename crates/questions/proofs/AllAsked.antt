-- The answers of all four tensors, each for itself, joined: those of questions 1 to 5; where all pass, the list of each tensor. D answers for C where C is not named.
-- Assumes nothing.
use mathlib.Core.Path.{◌≡◌, refl, sym, ap, ◌∙◌, subst}
use mathlib.Core.Bool.{Bool, true, false, cond, ◌&&◌}
use mathlib.Core.List.{List, [], ◌∷◌, ◌++◌}
use Prim.Native.Nat.{ℕ}
use Rattle.std.specs.Prelude.{Result, IsErrAnd, Option, Some, None, is_some, unwrap_or, IfSome, MatchOption}
use Rattle.std.specs.Bool.{then_some}
use Rattle.layout.specs.declared.layout.Layout.{Layout}
use Rattle.refusals.specs.declared.refusal.Refusal.{Refusal}
use Rattle.refusals.specs.Numbers.{number, status}
use Rattle.refusals.proofs.Numbers.{errs}
use Rattle.layout.specs.Listed.{listed}
use Rattle.layout.specs.Layout.{axes}
use Rattle.labels.specs.declared.labelled.Labelled.{Labelled}
use Rattle.contraction.specs.declared.contraction.Contraction.{Contraction}
use Rattle.contraction.specs.declared.contraction.Lengths.{Lengths}
use Rattle.contraction.specs.declared.operands.Operands.{Operands}
use Rattle.contraction.specs.Operands.{four, tensors, lengths}
use Rattle.contraction.specs.declared.contraction.Operand.{Operand}
use Rattle.contraction.specs.declared.contraction.Operand.TheVariants.{A, B, C, D}
use Rattle.contraction.specs.TensorAxes.{Held, Ready}
use Rattle.tensor_answers.specs.declared.tensor_answers.Asked.{Asked}
use Rattle.tensor_answers.specs.Asking.{Question, refusal}
use Rattle.entries.specs.EntryQuestions.{inside}
use Rattle.tensor_answers.specs.OwnQuestions.{Lent, tensor_questions, entries_inside}
use Rattle.tensor_answers.specs.Answers.{BothOf, OwnOf, Passed, PassedOf}
use Rattle.tensor_answers.proofs.Refusal.{refused_by, passed_then}
use Rattle.questions.proofs.Ready.{each_passed}
use Rattle.questions.specs.ListedTensors.{ListedOf}
use Rattle.questions.specs.Questions.{lent_tensors, label_questions, entry_questions, layout_questions}

-- the list that is handed on for C: where C is not named, D's
of_c : (c : Option Layout) (d : Layout) (r s : Labelled) → listed r.axes ≡ axes (unwrap_or c d) → listed s.axes ≡ axes d
    → listed (unwrap_or (then_some (is_some c) r) s).axes ≡ axes (unwrap_or c d)
of_c (Some l) d r s e f = e
of_c None d r s e f = f

and_true : (b : Bool) → (b && true) ≡ b
and_true true = refl
and_true false = refl

module _ (k : Contraction) (n : Lengths) where
  -- what stands in C's place answers for it
  pub answers_for_c : (r d : Result (Unit {0}) Refusal) → MatchOption k.c (r ≡ d) (λ l. OwnOf l n.c r)
      → OwnOf k.d n.d d → OwnOf (tensors k C) (lengths k n C) r
  answers_for_c r d f h = go k.c f
    where
      go : (c : Option Layout) → MatchOption c (r ≡ d) (λ l. OwnOf l n.c r) → OwnOf (unwrap_or c k.d) (cond (is_some c) n.c n.d) r
      go (Some l) f = f
      go None e = rw e h

  -- and what it leaves is C's
  pub left_for_c : {x d : Asked} → MatchOption k.c (x ≡ d) (λ l. PassedOf l n.c x) → PassedOf k.d n.d d → PassedOf (tensors k C) (lengths k n C) x
  left_for_c {x} {d} f h = go k.c f
    where
      go : (c : Option Layout) → MatchOption c (x ≡ d) (λ l. PassedOf l n.c x) → PassedOf (unwrap_or c k.d) (cond (is_some c) n.c n.d) x
      go (Some l) f = f
      go None e = rw e h

  -- one tensor of the four
  abbrev own : Operand → List Lent
  own o = record { layout = tensors k o; words = lengths k n o } ∷ []

  -- the answer of a tensor
  abbrev pub Own : Operand → Result (Unit {0}) Refusal → Type 0
  Own o r = OwnOf (tensors k o) (lengths k n o) r

  -- what a tensor leaves
  abbrev pub Left : Operand → Asked → Type 0
  Left o x = PassedOf (tensors k o) (lengths k n o) x

  -- questions 1 to 5 of all of them
  abbrev first : List Question
  first = tensor_questions (lent_tensors (tensors k) (lengths k n))

  abbrev later : List Question
  later = label_questions (tensors k) (lengths k n) ++ entry_questions (tensors k) (lengths k n)

  -- their answers, joined
  module _ {a b c d : Result (Unit {0}) Refusal} (fa : Own A a) (fb : Own B b) (fc : Own C c) (fd : Own D d)
      {X Y Z : Type 0} {x : Result X Refusal} (jx : BothOf c d x) {y : Result Y Refusal} (jy : BothOf b x y) {z : Result Z Refusal} (jz : BothOf a y z) where
    pub joined : status z ≡ refusal first
    joined = jz.number (own A) (own B ++ (own C ++ own D)) fa (jy.number (own B) (own C ++ own D) fb (jx.number (own C) (own D) fc fd))

  -- where none of them refuses, they pass of each
  module _ (z : 0 ≡ refusal first) where
    pub each_own : (o : Operand) → Passed (tensors k o) (lengths k n o)
    unfolding tensor_questions
    each_own o =
        let p = each_passed (tensors k) (lengths k n) (sym z) in
        rw (p.ranks o, p.counts o, p.letters o, p.extents o, p.sizes o) refl

    -- of C where it is named
    pub own_of_c : IfSome k.c (λ l. Passed l n.c)
    own_of_c = go k.c (each_own C)
      where
        go : (c : Option Layout) → Passed (unwrap_or c k.d) (cond (is_some c) n.c n.d) → IfSome c (λ l. Passed l n.c)
        go (Some l) p = p
        go None p = tt

  -- what they leave
  module _ {p q r s : Asked} (fa : Left A p) (fb : Left B q) (fc : Left C r) (fd : Left D s) where
    -- the lists hold the axes of the tensors
    pub ready : {b : Bool} → b ≡ is_some k.c → {m : Option Labelled} → m ≡ then_some b r.lists → {o : Operands} → Held (four p.lists q.lists (unwrap_or m s.lists) s.lists) o → Ready k o
    ready e {m} is h =
        let each : (o : Operand) → listed (four p.lists q.lists (unwrap_or m s.lists) s.lists o).axes ≡ axes (tensors k o) =
        elim [
          | A ↦ fa.lists.lists
          | B ↦ fb.lists.lists
          | C ↦ rw (is, e) (of_c k.c k.d r.lists s.lists fc.lists.lists fd.lists.lists)
          | D ↦ fd.lists.lists
        ] in
        record { each = λ o. ap (λ (l : Labelled). listed l.axes) (h.same o) ∙ each o; gathered = h.gathered }

    -- and their entries are inside where all of them say so
    pub within : (p.inside && (q.inside && (r.inside && s.inside))) ≡ entries_inside (lent_tensors (tensors k) (lengths k n))
    within = λ i. one A p fa i && (one B q fb i && (one C r fc i && fd.inside i))
      where
        one : (o : Operand) (x : Asked) → Left o x → x.inside ≡ inside (axes (tensors k o)) (tensors k o).base (lengths k n o)
        one o x h = h.inside ∙ and_true (inside (axes (tensors k o)) (tensors k o).base (lengths k n o))

  -- one of the first five refuses
  pub first_refuses : (e : Refusal) → number e ≡ refusal first → number e ≡ refusal (layout_questions (tensors k) (lengths k n))
  unfolding layout_questions
  first_refuses e h = refused_by first later e h

  -- none does, and the others are asked
  pub later_asked : 0 ≡ refusal first → {m : ℕ} → m ≡ refusal later → m ≡ refusal (layout_questions (tensors k) (lengths k n))
  unfolding layout_questions tensor_questions
  later_asked z h = passed_then first later tt z h

  -- refused by what a `?` handed on
  pub refused : (e : Refusal) (r : Result Operands Refusal) → IsErrAnd r (λ y. y ≡ e) → number e ≡ refusal (layout_questions (tensors k) (lengths k n))
      → ListedOf k (lengths k n) r
  refused e r h m = subst (ListedOf k (lengths k n)) (sym (errs r h)) (record { number = m; lists = tt })
