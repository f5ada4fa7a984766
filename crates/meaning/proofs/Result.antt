-- The result of an accepted contraction holds each output's value at its place, and the old words elsewhere.
-- Assumes nothing.
use mathlib.Core.Path.{◌≡◌, sym, ◌∙◌}
use mathlib.Core.Bool.{Bool}
use mathlib.Core.List.{List, [], ◌∷◌}
use mathlib.Core.Logic.{◌≢◌}
use Prim.Native.Nat.{ℕ, ◌+◌, ◌*◌, ◌<◌}
use lib.Dec.{T}
use lib.ListN.{length, get_or}
use Rattle.words.specs.Sums.{All, sum_to}
use Rattle.words.specs.Words.{word}
use Rattle.words.proofs.Store.{length_puts, puts_other, puts_at}
use Rattle.words.proofs.Lists.{all_member, member_distinct}
use Rattle.layout.specs.declared.layout.Layout.{Layout}
use Rattle.layout.specs.Layout.{axes, address}
use Rattle.labels.specs.Labels.{labels}
use Rattle.points.specs.LabelQuestions.{extents_agree}
use Rattle.entries.specs.EntryQuestions.{inside, apart}
use Rattle.entries.specs.Bounds.{InRange, Inside}
use Rattle.entries.proofs.Bounds.{inside_every}
use Rattle.entries.proofs.StridesApart.{apart_injective}
use Rattle.contraction.specs.declared.contraction.Contraction.{Contraction}
use Rattle.contraction.specs.Operands.{named, tensors, shape, together}
use Rattle.contraction.specs.declared.contraction.Operand.{Operand}
use Rattle.contraction.specs.declared.contraction.Operand.TheVariants.{A, B, C, D}
use Rattle.groups.specs.Groups.{letters, depth, group, outputs, size}
use Rattle.meaning.specs.Index.{at, out_index}
use Rattle.meaning.specs.Meaning.{Slices, shape_in, start_of, entry, value, result}
use Rattle.meaning.proofs.CountAddress.{group_distinct}
use Rattle.meaning.proofs.Nested.{sum_over_is_sum_to}
use Rattle.meaning.proofs.IndexParts.{Below, parts_at, Splits, at_parts, parts_in_range, parts_injective}
use Rattle.meaning.proofs.Outputs.{in_d}
use Rattle.meaning.proofs.EngineIndices.{out_labels, out_in_range}

-- ---- where questions 6, 8 and 9 pass
module _ (t : Operand → Layout) (n : ℕ) (same : T (extents_agree (together (shape t)))) (fits : T (inside (axes (t D)) (t D).base n)) where
  -- an output count addresses a word of D's slice
  pub output_inside : (m : ℕ) → m < size (outputs (shape t)) → Inside (t D) n (out_index (shape t) m)
  output_inside m h = inside_every (t D) n fits (out_index (shape t) m) (out_in_range (shape t) same m h)

  -- different counts of lists that split D's labels address different words
  pub parts_apart : T (apart (axes (t D))) → {X : Type 0} (test : X → ℕ → Bool) (xs : List X) → Splits (shape t) D test xs → (i k : X → ℕ)
      → Below (shape t) (parts_at test i xs) → Below (shape t) (parts_at test k xs)
      → address (t D) (at_parts (shape t) (parts_at test i xs)) ≡ address (t D) (at_parts (shape t) (parts_at test k xs)) → All (λ x. i x ≡ k x) xs
  unfolding labels
  parts_apart spread {X} test xs h i k p q e =
      parts_injective (shape t) test i k xs (h.separate i) p q
      (λ c m. all_member (λ c. index i c ≡ index k c) c (labels (axes (t D))) agree (member_distinct c (letters (shape t) D) (sym (h.covers i c) ∙ m)))
    where
      index : (X → ℕ) → ℕ → ℕ
      index i = at_parts (shape t) (parts_at test i xs)

      reach : (i : X → ℕ) → Below (shape t) (parts_at test i xs) → InRange (axes (t D)) (index i)
      reach i p = parts_in_range (shape t) same D (parts_at test i xs) p (λ c m. h.covers i c ∙ m)

      agree : All (λ c. index i c ≡ index k c) (labels (axes (t D)))
      agree =
          apart_injective (t D) spread n (index i) (index k) (reach i p) (reach k q)
          (inside_every (t D) n fits (index i) (reach i p)) (inside_every (t D) n fits (index k) (reach k q)) e

  -- different output counts address different words
  pub outputs_apart : T (apart (axes (t D))) → (i k : ℕ) → i < size (outputs (shape t)) → k < size (outputs (shape t))
      → address (t D) (out_index (shape t) i) ≡ address (t D) (out_index (shape t) k) → i ≡ k
  unfolding outputs out_index
  outputs_apart spread i k p q e =
      (parts_apart spread (λ (u : Unit {0}). in_d (shape t)) (tt ∷ []) (out_labels (shape t)) (λ u. i) (λ u. k) (p, tt) (q, tt) e).0

module _ (c : Contraction) (w : Slices) where
  -- the address of an output count, and the value that is put there
  abbrev place : ℕ → ℕ
  place m = address (tensors c D) (out_index (shape_in c) m)

  abbrev made : ℕ → ℕ → ℕ
  made m was = value c w (out_index (shape_in c) m)

  pub result_at : T (extents_agree (together (shape_in c))) → T (inside (axes (tensors c D)) (tensors c D).base (length (w D))) → T (apart (axes (tensors c D)))
      → (m : ℕ) → m < size (outputs (shape_in c)) → get_or (result c w) (place m) 0 ≡ value c w (out_index (shape_in c) m)
  unfolding result
  result_at same fits spread =
      puts_at place made (size (outputs (shape_in c))) (w D)
      (outputs_apart (tensors c) (length (w D)) same fits spread) (record { each = λ m h. (output_inside (tensors c) (length (w D)) same fits m h).1 })

  pub length_result : length (result c w) ≡ length (w D)
  unfolding result
  length_result = length_puts place made (size (outputs (shape_in c))) (w D)

  pub result_other : (p : ℕ) → ((m : ℕ) → m < size (outputs (shape_in c)) → place m ≢ p) → get_or (result c w) p 0 ≡ get_or (w D) p 0
  unfolding result
  result_other p = puts_other place made (size (outputs (shape_in c))) p (w D)

  -- the product of the entries of A and B at a depth count
  abbrev pub term : (ℕ → ℕ) → ℕ → ℕ
  term ρ k = entry c w A (at (group (shape_in c) depth) k ρ) * entry c w B (at (group (shape_in c) depth) k ρ)

  -- the sum of a value runs over the counts of the depth group
  pub value_counts : (ρ : ℕ → ℕ) → value c w ρ ≡ word 32 (c.alpha * sum_to (size (group (shape_in c) depth)) (term ρ) + c.beta * start_of (named c) (entry c w C ρ) (entry c w D ρ))
  unfolding value
  value_counts ρ = rw (sum_over_is_sum_to (group (shape_in c) depth) (λ σ. entry c w A σ * entry c w B σ) ρ (group_distinct (shape_in c) depth))
