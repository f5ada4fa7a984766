-- A value depends on an index only by D's labels; so the result of an accepted contraction holds, at every index in range, its value.
-- Assumes nothing.
use mathlib.Core.Path.{◌≡◌, refl, sym, ap, ◌∙◌}
use mathlib.Core.Bool.{Bool, true, false}
use mathlib.Core.Logic.{◌≢◌}
use Prim.Native.Nat.{ℕ}
use lib.Dec.{T}
use lib.ListN.{length, get_or}
use Rattle.words.specs.Sums.{sum_to}
use Rattle.words.specs.Lists.{member}
use Rattle.words.proofs.Lists.{all_imp, all_member, covers, member_distinct}
use Rattle.words.proofs.Sums.{sum_to_ext}
use Rattle.layout.specs.Layout.{axes, address}
use Rattle.layout.proofs.Address.{address_agree}
use Rattle.labels.specs.Labels.{labels}
use Rattle.points.specs.LabelQuestions.{extents_agree, letters_same}
use Rattle.entries.specs.EntryQuestions.{inside, apart}
use Rattle.entries.specs.Bounds.{InRange}
use Rattle.entries.proofs.Bounds.{inside_every}
use Rattle.entries.proofs.StridesApart.{apart_injective}
use Rattle.contraction.specs.declared.contraction.Contraction.{Contraction}
use Rattle.contraction.specs.Operands.{Shape, tensors, together}
use Rattle.contraction.specs.declared.contraction.Operand.{Operand}
use Rattle.contraction.specs.declared.contraction.Operand.TheVariants.{A, B, C, D}
use Rattle.questions.proofs.Ready.{AllPassed}
use Rattle.groups.specs.Groups.{letters, depth, group, size}
use Rattle.meaning.specs.Index.{at, out_index}
use Rattle.meaning.specs.Meaning.{Slices, lengths_in, shape_in, entry, value, result}
use Rattle.meaning.proofs.Index.{letter_in_lem, group_same}
use Rattle.meaning.proofs.OwnGroups.{c_in_d}
use Rattle.meaning.proofs.Outputs.{is_depth, not_depth}
use Rattle.meaning.proofs.EngineIndices.{out_in_range}
use Rattle.meaning.proofs.CountAddress.{clear}
use Rattle.meaning.proofs.Onto.{outputs_onto}
use Rattle.meaning.proofs.Result.{result_at, result_other, term, value_counts}

-- the two indices agree on D's letters
pub record Agree (s : Shape) (ρ σ : ℕ → ℕ) : Type 0 where
  pub each : (c : ℕ) → member c (letters s D) ≡ true → ρ c ≡ σ c

module _ (c : Contraction) (w : Slices) (alike : letters_same (axes (tensors c C)) (axes (tensors c D)) ≡ true) (ρ σ : ℕ → ℕ) (same : Agree (shape_in c) ρ σ) where
  -- with a depth count they agree on every tensor's letters
  term_agrees : (k : ℕ) (o : Operand) (x : ℕ) → member x (letters (shape_in c) o) ≡ true → at (group (shape_in c) depth) k ρ x ≡ at (group (shape_in c) depth) k σ x
  term_agrees k o x m = go (member x (letters (shape_in c) D)) refl
    where
      go : (b : Bool) → member x (letters (shape_in c) D) ≡ b → at (group (shape_in c) depth) k ρ x ≡ at (group (shape_in c) depth) k σ x
      go true e =
          clear (shape_in c) depth k ρ x (not_depth (shape_in c) x e) ∙ same.each x e ∙ sym (clear (shape_in c) depth k σ x (not_depth (shape_in c) x e))
      go false e = group_same (shape_in c) depth k ρ σ x (letter_in_lem (shape_in c) o x m) (is_depth (shape_in c) x e)

  entry_agrees : (o : Operand) (π τ : ℕ → ℕ) → ((x : ℕ) → member x (letters (shape_in c) o) ≡ true → π x ≡ τ x) → entry c w o π ≡ entry c w o τ
  unfolding entry
  entry_agrees o π τ h =
      ap (λ (x : ℕ). get_or (w o) x 0) (address_agree (tensors c o) π τ (all_imp (λ a. h a.letter) (axes (tensors c o)) (covers (λ a. a.letter) (axes (tensors c o)))))

  sum_agrees : sum_to (size (group (shape_in c) depth)) (term c w ρ) ≡ sum_to (size (group (shape_in c) depth)) (term c w σ)
  sum_agrees =
      sum_to_ext {f = term c w ρ} {g = term c w σ} (size (group (shape_in c) depth)) (λ k i. rw (entry_agrees A _ _ (term_agrees k A), entry_agrees B _ _ (term_agrees k B)))

  pub value_agrees : value c w ρ ≡ value c w σ
  value_agrees =
      value_counts c w ρ
      ∙ rw (sum_agrees, entry_agrees D ρ σ same.each, entry_agrees C ρ σ (λ x m. same.each x (c_in_d (shape_in c) alike x m))) (sym (value_counts c w σ))

module _ (c : Contraction) (w : Slices) (p : AllPassed (tensors c) (lengths_in c w)) where
  -- each word that D's layout addresses holds the value at its index
  pub result_in_range : (ρ : ℕ → ℕ) → InRange (axes (tensors c D)) ρ → get_or (result c w) (address (tensors c D) ρ) 0 ≡ value c w ρ
  unfolding labels
  result_in_range ρ h =
      let t = tensors c in
      let s = shape_in c in
      let fits : T (inside (axes (t D)) (t D).base (length (w D))) = rw (p.within D) tt in
      let spread : T (apart (axes (t D))) = rw p.distinct tt in
      let equal : T (extents_agree (together s)) = rw p.agree tt in
      let m = outputs_onto t equal ρ h in
      let k = out_in_range s equal m.0 m.1 in
      let agrees = apart_injective (t D) spread (length (w D)) (out_index s m.0) ρ k h (inside_every (t D) (length (w D)) fits _ k) (inside_every (t D) (length (w D)) fits ρ h) m.2 in
      ap (λ (x : ℕ). get_or (result c w) x 0) (sym m.2) ∙ result_at c w equal fits spread m.0 m.1
      ∙ value_agrees c w p.same (out_index s m.0) ρ
      (record { each = λ x e. all_member (λ x. out_index s m.0 x ≡ ρ x) x (labels (axes (t D))) agrees (member_distinct x (letters s D) e) })

  -- every other word has its old value
  pub result_elsewhere : (x : ℕ) → ((ρ : ℕ → ℕ) → InRange (axes (tensors c D)) ρ → address (tensors c D) ρ ≢ x) → get_or (result c w) x 0 ≡ get_or (w D) x 0
  result_elsewhere x h = result_other c w x (λ m i. h (out_index (shape_in c) m) (out_in_range (shape_in c) (rw p.agree tt) m i))
