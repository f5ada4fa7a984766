-- Every index in range of a tensor's labels is, for that tensor, the index of counts, however its labels are split into lists. So D's indices are those
-- of output counts.
-- Assumes nothing.
use mathlib.Core.Path.{◌≡◌, refl, sym, ◌∙◌}
use mathlib.Core.Bool.{Bool, true, false, ◌||◌, true≢false, or-true}
use mathlib.Core.List.{List, [], ◌∷◌}
use Prim.Native.Nat.{ℕ, ◌+◌, ◌*◌, ◌<◌}
use native.Mathlib.Nat.{mul-le-mul_left}
use native.Mathlib.Omega.{arith}
use lib.Dec.{T}
use Rattle.words.specs.Sums.{All}
use Rattle.words.specs.Lists.{member}
use Rattle.words.proofs.Lists.{all_imp, all_both, all_member, covers, eqb_self, eqb_flip, member_distinct}
use Rattle.layout.specs.declared.layout.Layout.{Layout}
use Rattle.layout.specs.Layout.{axes, address}
use Rattle.layout.proofs.Address.{address_agree}
use Rattle.labels.specs.Labels.{extent_of, labels}
use Rattle.points.specs.LabelQuestions.{extents_agree}
use Rattle.entries.specs.Bounds.{InRange}
use Rattle.contraction.specs.Operands.{Shape, shape, together}
use Rattle.contraction.specs.declared.contraction.Operand.{Operand}
use Rattle.contraction.specs.declared.contraction.Operand.TheVariants.{D}
use Rattle.groups.specs.Groups.{Label, label, letters, labels_where, outputs, size}
use Rattle.offsets.proofs.Digits.{lowest, rest}
use Rattle.meaning.specs.Index.{at, out_index}
use Rattle.meaning.proofs.CountAddress.{Distinct, where_distinct, where_all, where_clear}
use Rattle.meaning.proofs.ExtentsAgree.{agree}
use Rattle.meaning.proofs.Index.{letter_in_lem, where_at}
use Rattle.meaning.proofs.IndexParts.{Below, covered, parts_at, Splits, at_parts}
use Rattle.meaning.proofs.Outputs.{in_d}
use Rattle.meaning.proofs.EngineIndices.{out_labels}

-- the index gives each label of the list a value below its extent
abbrev pub Within : List Label → (ℕ → ℕ) → Type 0
Within g ρ = All (λ l. ρ l.letter < l.extent) g

-- the count of an index
abbrev pub count_of : List Label → (ℕ → ℕ) → ℕ
count_of [] ρ = 0
count_of (l ∷ g) ρ = l.extent * count_of g ρ + ρ l.letter

pub count_of_lt : (g : List Label) (ρ : ℕ → ℕ) → Within g ρ → count_of g ρ < size g
count_of_lt [] ρ h = omega arith
count_of_lt (l ∷ g) ρ h = omega (arith, mul-le-mul_left l.extent (count_of_lt g ρ h.1))

pub at_count_of : (g : List Label) (ρ σ : ℕ → ℕ) → Distinct g → Within g ρ → All (λ l. at g (count_of g ρ) σ l.letter ≡ ρ l.letter) g
at_count_of [] ρ σ d h = tt
at_count_of (l ∷ g) ρ σ d h =
    rw (lowest l.extent (count_of g ρ) h.0)
    (rw (eqb_self l.letter), all_imp (λ m p. rw (rest l.extent (count_of g ρ) h.0, eqb_flip l.letter m.letter p.0) p.1) g (all_both _ _ g d.0 (at_count_of g ρ σ d.1 h.1)))

-- ---- the counts of an index, of several lists of labels
module _ (s : Shape) {X : Type 0} (test : X → ℕ → Bool) (ρ : ℕ → ℕ) where
  abbrev counts_of : X → ℕ
  counts_of x = count_of (labels_where s (test x)) ρ

  -- the index gives each letter that passes a test a value below its extent
  abbrev Fits : List X → Type 0
  Fits xs = (c : ℕ) → covered c (parts_at test counts_of xs) ≡ true → ρ c < (label s c).extent

  within : (x : X) (xs : List X) → Fits (x ∷ xs) → Within (labels_where s (test x)) ρ
  within x xs f = where_all s (test x) (λ l. ρ l.letter < l.extent) (λ c e. f c (rw e))

  rest_fits : (x : X) (xs : List X) → Fits (x ∷ xs) → Fits xs
  rest_fits x xs f c e = f c (rw e (or-true (test x c)))

  counts_below : (xs : List X) → Fits xs → Below s (parts_at test counts_of xs)
  counts_below [] f = tt
  counts_below (x ∷ xs) f = (count_of_lt (labels_where s (test x)) ρ (within x xs f), counts_below xs (rest_fits x xs f))

  counts_back : (xs : List X) → Fits xs → (c : ℕ) → member c (labels (together s)) ≡ true → covered c (parts_at test counts_of xs) ≡ true
      → at_parts s (parts_at test counts_of xs) c ≡ ρ c
  counts_back [] f c m e = absurd (true≢false (sym e))
  counts_back (x ∷ xs) f c m e = go (test x c) refl e (counts_back xs (rest_fits x xs f) c m)
    where
      σ : ℕ → ℕ
      σ = at_parts s (parts_at test counts_of xs)

      go : (b : Bool) → test x c ≡ b → (b || covered c (parts_at test counts_of xs)) ≡ true → (covered c (parts_at test counts_of xs) ≡ true → σ c ≡ ρ c)
          → at (labels_where s (test x)) (counts_of x) σ c ≡ ρ c
      go true k e r =
          where_at s (test x) (λ l. at (labels_where s (test x)) (counts_of x) σ l.letter ≡ ρ l.letter)
          (at_count_of (labels_where s (test x)) ρ σ (where_distinct s (test x)) (within x xs f)) c m k
      go false k e r = where_clear s (test x) (counts_of x) σ c k ∙ r e

-- ---- where question 6 passes
module _ (t : Operand → Layout) (same : T (extents_agree (together (shape t)))) where
  -- every index in range of a tensor's labels has the address of counts of lists that split them
  pub parts_onto : (o : Operand) {X : Type 0} (test : X → ℕ → Bool) (xs : List X) → Splits (shape t) o test xs → (ρ : ℕ → ℕ) → InRange (axes (t o)) ρ
      → (n : X → ℕ) × Below (shape t) (parts_at test n xs) × (address (t o) (at_parts (shape t) (parts_at test n xs)) ≡ address (t o) ρ)
  unfolding labels
  parts_onto o test xs h ρ i = (
    counts_of (shape t) test ρ,
    counts_below (shape t) test ρ xs fits,
    address_agree (t o) (at_parts (shape t) (parts_at test (counts_of (shape t) test ρ) xs)) ρ
        (all_imp (λ a m. counts_back (shape t) test ρ xs fits a.letter (letter_in_lem (shape t) o a.letter m) (h.covers (counts_of (shape t) test ρ) a.letter ∙ m))
        (axes (t o)) (covers (λ a. a.letter) (axes (t o)))),
  )
    where
      fits : Fits (shape t) test ρ xs
      fits c e =
          let m : member c (letters (shape t) o) ≡ true = sym (h.covers (counts_of (shape t) test ρ) c) ∙ e in
          rw (← agree (shape t) same o c m) (all_member (λ c. ρ c < extent_of c (axes (t o))) c (labels (axes (t o))) i (member_distinct c (letters (shape t) o) m))

  -- of an output count of D
  pub outputs_onto : (ρ : ℕ → ℕ) → InRange (axes (t D)) ρ
      → (m : ℕ) × (m < size (outputs (shape t))) × (address (t D) (out_index (shape t) m) ≡ address (t D) ρ)
  unfolding outputs out_index
  outputs_onto ρ h = let r = parts_onto D (λ (u : Unit {0}). in_d (shape t)) (tt ∷ []) (out_labels (shape t)) ρ h in (r.0 tt, r.1.0, r.2)
