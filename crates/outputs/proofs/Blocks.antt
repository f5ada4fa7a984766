-- A run of outputs in blocks: a block begins v steps from the run's first output, and its outputs are the run's from v on.
-- Assumes nothing.
use Rattle.std.proofs.Common.{◌≡◌, ℕ, ◌+◌, ◌*◌, ◌^◌, ◌<◌, ◌≤◌, Bool, List, length, get_or, ap, ◌∙◌, arith}
use mathlib.Core.Path.{subst⁻¹, fun_ext}
use Rattle.words.specs.Words.{word}
use Rattle.words.specs.Loops.{each}
use Rattle.words.proofs.Loops.{each_more}
use Rattle.words.proofs.Modular.{word_add_right}
use Rattle.contraction.specs.declared.contraction.Operand.{Operand}
use Rattle.contraction.specs.declared.contraction.Operand.TheVariants.{C, D}
use Rattle.contraction.specs.TensorPlaces.{operand_number}
use Rattle.groups.specs.Groups.{Label}
use Rattle.offsets.specs.declared.offsets.Offsets.{Offsets}
use Rattle.offsets.specs.Offsets.{words_in, Words}
use Rattle.sums.specs.Walk.{steps, Readable}
use Rattle.output_run.specs.FilledOutput.{Clear}

-- no step
pub steps_first : (from step : Offsets) → ((k : ℕ) → get_or from.words k 0 < 2 ^ 64) → words_in from ≡ steps from step 0
steps_first from step h = fun_ext (λ o. omega (arith, h (operand_number o)))

module _ (from step at : Offsets) (v n : ℕ) (e : words_in at ≡ steps from step v) where
  -- n steps from v steps on
  pub steps_more : steps at step n ≡ steps from step (v + n)
  steps_more = fun_ext (λ o. same o (ap (λ (f : Operand → ℕ). f o) e))
    where
      same : (o : Operand) → words_in at o ≡ steps from step v o → steps at step n o ≡ steps from step (v + n) o
      same o f = omega arith

  -- and moved by them at once
  pub leapt : {by to : Offsets} → Words by (λ o. n * words_in step o) → Words to (λ o. words_in at o + words_in by o) → words_in to ≡ steps from step (v + n)
  leapt w p =
      fun_ext
      (λ o.
      p.each o ∙ ap (λ (x : ℕ). word 64 (words_in at o + x)) (w.each o) ∙ word_add_right 64 (words_in at o) (n * words_in step o)
      ∙ ap (λ (f : Operand → ℕ). f o) steps_more)

module _ (from step at : Offsets) (v : ℕ) (e : words_in at ≡ steps from step v) where
  -- a block of a run that is clear
  pub block_clear : (n len : ℕ) {named : Bool} {g : List Label} {a b c : List ℕ} {size : ℕ} → v + n ≤ len → Clear named len (steps from step) g a b c size
      → Clear named n (steps at step) g a b c size
  block_clear n len {g = g} {a} {b} {c} {size} h k =
      record {
        reads = λ r i. subst⁻¹ (Readable g a b) (steps_more from step at v r e) (k.reads (v + r) (omega arith));
        starts = λ t. record { each = λ r i. subst⁻¹ (λ (f : Operand → ℕ). f C < length c) (steps_more from step at v r e) ((k.starts t).each (v + r) (omega arith)) };
        writes = record { each = λ r i. subst⁻¹ (λ (f : Operand → ℕ). f D < size) (steps_more from step at v r e) (k.writes.each (v + r) (omega arith)) };
      }

  -- D's words after a block
  pub block_turn : (body : (Operand → ℕ) → List ℕ → List ℕ) (n : ℕ) (d₀ : List ℕ) {m : ℕ} {d new : List ℕ} → m ≡ v + n → d ≡ each v (λ k. body (steps from step k)) d₀
      → new ≡ each n (λ r. body (steps at step r)) d → new ≡ each m (λ k. body (steps from step k)) d₀
  block_turn body n d₀ q i j =
      rw q
      (j ∙ ap (each n (λ r. body (steps at step r))) i
      ∙ each_more v n (λ k. body (steps from step k)) (λ r. body (steps at step r)) d₀ (λ r h x. rw (steps_more from step at v r e)))
