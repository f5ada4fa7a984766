-- Demand 2 of the result: it holds at every index in range its value, and all else is old. With depth size 0 the sum of a value has no terms; and a count of
-- D's labels would give D an index in range, so that without entries there is none.
-- Assumes nothing.
use mathlib.Core.Path.{◌≡◌, refl, ap, ◌∙◌}
use mathlib.Core.Bool.{false}
use Prim.Native.Nat.{ℕ, zero, suc, ◌+◌, ◌*◌, ◌<◌}
use native.Mathlib.Nat.{mul-zero, zero-add, zero-lt-suc}
use Rattle.words.specs.Sums.{sum_to}
use Rattle.words.specs.Words.{word}
use Rattle.words.specs.Loops.{each, overwrite}
use Rattle.layout.specs.Layout.{axes, address}
use Rattle.entries.specs.EntryQuestions.{has_entries}
use Rattle.entries.proofs.Bounds.{in_range_some}
use Rattle.contraction.specs.declared.contraction.Contraction.{Contraction}
use Rattle.contraction.specs.Operands.{named, tensors}
use Rattle.contraction.specs.declared.contraction.Operand.TheVariants.{C, D}
use Rattle.questions.proofs.Ready.{AllPassed, accepted_parts}
use Rattle.groups.specs.Groups.{depth, group, outputs, size}
use Rattle.meaning.specs.Index.{out_index}
use Rattle.meaning.specs.Meaning.{Slices, lengths_in, shape_in, start_of, entry, value, result}
use Rattle.meaning.specs.Demand2.{Demand2, ResultMeetsDemand2, EmptyLayers, EmptyLayersHold}
use Rattle.meaning.proofs.EngineIndices.{out_in_range}
use Rattle.meaning.proofs.Result.{length_result, term, value_counts}
use Rattle.meaning.proofs.Values.{result_in_range, result_elsewhere}

pub passed_demand2 : (c : Contraction) (w : Slices) → AllPassed (tensors c) (lengths_in c w) → Demand2 c w (result c w)
passed_demand2 c w passed =
    record {
      addressed = result_in_range c w passed;
      others = result_elsewhere c w passed;
      same_length = length_result c w;
    }

pub result_demand2 : ResultMeetsDemand2
result_demand2 c w e = passed_demand2 c w (accepted_parts (tensors c) (lengths_in c w) e)

-- ---- layers with nothing in them

module _ (c : Contraction) (w : Slices) (p : AllPassed (tensors c) (lengths_in c w)) where
  -- what a sum starts from
  abbrev start : (ℕ → ℕ) → ℕ
  start ρ = start_of (named c) (entry c w C ρ) (entry c w D ρ)

  no_sum : size (group (shape_in c) depth) ≡ 0 → (ρ : ℕ → ℕ) → value c w ρ ≡ word 32 (c.beta * start ρ)
  unfolding sum_to
  no_sum e ρ =
      value_counts c w ρ
      ∙ ap (λ (n : ℕ). word 32 (c.alpha * sum_to n (term c w ρ) + c.beta * start ρ)) e
      ∙ ap (λ (x : ℕ). word 32 (x + c.beta * start ρ)) (mul-zero c.alpha)
      ∙ ap (word 32) (zero-add (c.beta * start ρ))

  no_count : has_entries (axes (tensors c D)) ≡ false → size (outputs (shape_in c)) ≡ 0
  no_count e = go (size (outputs (shape_in c))) refl
    where
      go : (n : ℕ) → size (outputs (shape_in c)) ≡ n → n ≡ 0
      go zero q = refl
      go (suc n) q =
          let first : 0 < size (outputs (shape_in c)) = rw q (zero-lt-suc n) in
          absurd (rw e at (in_range_some (axes (tensors c D)) (out_index (shape_in c) 0) (out_in_range (shape_in c) (rw p.agree tt) 0 first)))

  unchanged : has_entries (axes (tensors c D)) ≡ false → result c w ≡ w D
  unfolding result each
  unchanged e =
      ap (λ (n : ℕ). overwrite n (λ m. address (tensors c D) (out_index (shape_in c) m)) (λ m. value c w (out_index (shape_in c) m)) (w D)) (no_count e)

  passed_empty : EmptyLayers c w
  passed_empty = record { no_terms = λ e ρ h. result_in_range c w p ρ h ∙ no_sum e ρ; no_outputs = unchanged }

pub empty_layers : EmptyLayersHold
empty_layers c w e = passed_empty c w (accepted_parts (tensors c) (lengths_in c w) e)
