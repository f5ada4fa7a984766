-- Four runs of outputs in blocks: the blocks of the four runs take turns, and since no two runs have a place in common, that leaves what the whole runs leave, one
-- after the other.
-- Assumes nothing.
use mathlib.Core.Path.{◌≡◌, ap, sym, ◌∙◌}
use mathlib.Core.Bool.{Bool}
use mathlib.Core.List.{List}
use mathlib.Core.Logic.{◌≢◌}
use Prim.Native.Nat.{ℕ, ◌+◌, ◌<◌}
use native.Mathlib.Omega.{arith}
use Rattle.words.specs.Loops.{each}
use Rattle.words.specs.Stepped.{stepped}
use Rattle.words.proofs.Loops.{each_ext, each_add, each_swap, each_zip}
use Rattle.words.proofs.Store.{put_pass}
use Rattle.contraction.specs.declared.contraction.Operand.{Operand}
use Rattle.contraction.specs.declared.contraction.Operand.TheVariants.{A, D}
use Rattle.groups.specs.Groups.{Label}
use Rattle.offsets.specs.declared.offsets.Offsets.{Offsets}
use Rattle.offsets.specs.Offsets.{words_in}
use Rattle.sums.specs.Walk.{steps}
use Rattle.output_run.specs.FilledOutput.{filled}
use Rattle.outputs.proofs.Blocks.{steps_more}
use Rattle.four_sums.specs.FourRunSums.{Shared}
use Rattle.four_runs.specs.FourRuns.{four_filled, Apart}

filled_pass : (named : Bool) (alpha beta : ℕ) (g : List Label) (a b c : List ℕ) (x y : Operand → ℕ) → x D ≢ y D → (s : List ℕ)
    → filled named alpha beta g a b c x (filled named alpha beta g a b c y s) ≡ filled named alpha beta g a b c y (filled named alpha beta g a b c x s)
unfolding filled
filled_pass named alpha beta g a b c x y = put_pass _ _ (x D) (y D)

-- four loops of which each turn lets the turns of the later loops pass: v turns of each and then n more of each are v + n turns of each
module _ {S : Type 0} (f : ℕ → ℕ → S → S) (v n : ℕ)
    (pass : (i j : ℕ) → i < j → j < 4 → (k l : ℕ) → k < v + n → l < v + n → (s : S) → f i k (f j l s) ≡ f j l (f i k s)) where
  loops_pass : (i j : ℕ) → i < j → j < 4 → (s : S) → each n (λ r. f i (v + r)) (each v (f j) s) ≡ each v (f j) (each n (λ r. f i (v + r)) s)
  loops_pass i j h b =
      each_swap (λ r. f i (v + r)) (each v (f j)) n
      (λ r p s. sym (each_swap (f j) (f i (v + r)) v (λ l q u. sym (pass i j h b (v + r) l (omega arith) (omega arith) u)) s))

  loops_more : (s : S) → each 4 (λ q. each n (λ r. f q (v + r))) (each 4 (λ q. each v (f q)) s) ≡ each 4 (λ q. each (v + n) (f q)) s
  loops_more s =
      each_zip (λ q. each n (λ r. f q (v + r))) (λ q. each v (f q)) 4 loops_pass s
      ∙ each_ext 4 (λ q h u. sym (each_add v n (f q) u)) s

-- the blocks begin v steps from where the runs do
module _ (from at : ℕ → Offsets) (step : Offsets) (v : ℕ) (e : (q : ℕ) → words_in (at q) ≡ steps (from q) step v) where
  pub shared_blocks : Shared from step → Shared at step
  shared_blocks s = record { along = s.along; still = s.still; same = λ q. word_of q ∙ ap (λ (x : ℕ). stepped x (words_in step A) v) (s.same q) ∙ sym (word_of 0) }
    where
      word_of : (q : ℕ) → words_in (at q) A ≡ steps (from q) step v A
      word_of q = ap (λ (f : Operand → ℕ). f A) (e q)

  module _ (named : Bool) (alpha beta : ℕ) (g : List Label) (a b c : List ℕ) (n : ℕ) (apart : Apart (v + n) from step) where
    body : ℕ → ℕ → List ℕ → List ℕ
    body q k = filled named alpha beta g a b c (steps (from q) step k)

    pub four_turn : (d₀ : List ℕ) {m : ℕ} {d new : List ℕ} → m ≡ v + n → d ≡ four_filled named alpha beta g a b c step v from d₀
        → new ≡ four_filled named alpha beta g a b c step n at d → new ≡ four_filled named alpha beta g a b c step m from d₀
    unfolding body
    four_turn d₀ {d = d} s i j =
        rw s
        (j
        ∙ each_ext 4 (λ q h s. each_ext n (λ r l u. ap (λ (w : Operand → ℕ). filled named alpha beta g a b c w u) (steps_more (from q) step (at q) v r (e q))) s) d
        ∙ ap (each 4 (λ q. each n (λ r. body q (v + r)))) i
        ∙ loops_more body v n (λ i j h few k l p q. filled_pass named alpha beta g a b c (steps (from i) step k) (steps (from j) step l) (apart.each i j h few k l p q)) d₀)
