-- Runs of outputs by where they begin: their places are those of the group's counts, so that runs one after the other fill as many counts, and no two runs have a
-- place in common.
-- Assumes nothing.
use mathlib.Core.Path.{◌≡◌, ap, sym, ◌∙◌, subst⁻¹, fun_ext}
use mathlib.Core.Bool.{Bool}
use mathlib.Core.List.{List}
use Prim.Native.Nat.{ℕ, zero, suc, ◌+◌, ◌*◌, ◌<◌, ◌≤◌}
use native.Mathlib.Nat.{mul-zero, mul-suc, mul-add, mul-le-mul_left}
use native.Mathlib.Omega.{arith}
use lib.ListN.{length, drop}
use Rattle.words.specs.Loops.{each}
use Rattle.words.proofs.Loops.{each_ext, each_add}
use Rattle.contraction.specs.declared.contraction.Operand.{Operand}
use Rattle.contraction.specs.declared.contraction.Operand.TheVariants.{C, D}
use Rattle.groups.specs.Groups.{Label, size}
use Rattle.offsets.specs.declared.offsets.Offsets.{Offsets}
use Rattle.offsets.specs.Offsets.{words_in}
use Rattle.sums.specs.declared.walk.Walk.{Walk}
use Rattle.sums.specs.Walk.{steps, places, Readable, Walks}
use Rattle.sums.proofs.GroupRuns.{runs_behind, run_below, run_place}
use Rattle.output_run.specs.FilledOutput.{Clear}
use Rattle.four_runs.specs.FourRuns.{Apart}
use Rattle.next_runs.specs.NextRuns.{Distinct, Begins}

module _ {g : List Label} {w : Walk} (k : Walks g w) (base : Offsets) where
  -- run m, from where it begins
  module _ {m : ℕ} (h : m < w.runs) {at : Offsets} (s : Begins (drop 1 g) (words_in base) m at) where
    -- v steps from there are those of the counts from the run's first on
    same_places : (v : ℕ) → v < w.len → steps at w.step v ≡ places base g (w.len * m + v)
    same_places v i = fun_ext (λ o. run_place g w k h s.stands o v i)

    -- what holds of the places of all counts holds of the run's
    in_run_lem : (P : (Operand → ℕ) → Type 0) → ((n : ℕ) → n < size g → P (places base g n)) → (v : ℕ) → v < w.len → P (steps at w.step v)
    in_run_lem P f v i = subst⁻¹ P (same_places v i) (f (w.len * m + v) (run_below g w k m v h i))

    pub run_clear : {named : Bool} {q : List Label} {a b c : List ℕ} {n : ℕ} → Clear named (size g) (places base g) q a b c n
        → Clear named w.len (steps at w.step) q a b c n
    run_clear {q} {a} {b} {c} {n} x =
        record {
          reads = in_run_lem (Readable q a b) x.reads;
          starts = λ e. record { each = in_run_lem (λ (f : Operand → ℕ). f C < length c) (x.starts e).each };
          writes = record { each = in_run_lem (λ (f : Operand → ℕ). f D < n) x.writes.each };
        }

  -- a count below the runs' number is one of the labels behind the first
  pub behind : (m : ℕ) → m < w.runs → m < size (drop 1 g)
  behind m h = rw (← runs_behind g w k h) h

  -- runs from m on
  module _ (m : ℕ) (at : ℕ → Offsets) where
    -- r of them are filled as the counts from the first one's on
    pub runs_as_one : (body : (Operand → ℕ) → List ℕ → List ℕ) (r : ℕ) → m + r ≤ w.runs → ((q : ℕ) → q < r → Begins (drop 1 g) (words_in base) (m + q) (at q)) → (d : List ℕ)
        → each r (λ q. each w.len (λ v. body (steps (at q) w.step v))) d ≡ each (w.len * r) (λ v. body (places base g (w.len * m + v))) d
    unfolding each
    runs_as_one body zero h b d = rw mul-zero
    runs_as_one body (suc r) h b d =
        rw mul-suc
        (each_ext w.len (λ v i x. ap (λ (f : Operand → ℕ). body f x) (place v i)) _
        ∙ ap (each w.len (λ v. body (places base g (w.len * m + (w.len * r + v))))) (runs_as_one body r (omega arith) (λ q l. b q (omega arith)) d)
        ∙ sym (each_add (w.len * r) w.len (λ v. body (places base g (w.len * m + v))) d))
      where
        place : (v : ℕ) → v < w.len → steps (at r) w.step v ≡ places base g (w.len * m + (w.len * r + v))
        place v i =
            let e : w.len * (m + r) + v ≡ w.len * m + (w.len * r + v) = omega (arith, mul-add w.len m r) in
            same_places (omega arith) (b r (omega arith)) v i ∙ ap (places base g) e

    -- four of them have no place in common
    pub runs_apart : m + 4 ≤ w.runs → ((q : ℕ) → q < 4 → Begins (drop 1 g) (words_in base) (m + q) (at q)) → Distinct (size g) (λ n. places base g n D) → Apart w.len at w.step
    runs_apart h b x = record { each = apart }
      where
        apart : (i j : ℕ) → i < j → j < 4 → (v u : ℕ) → v < w.len → u < w.len → steps (at i) w.step v D ≡ steps (at j) w.step u D → ⊥
        apart i j l few v u p q e =
            let first : m + i < w.runs = omega arith in
            let second : m + j < w.runs = omega arith in
            let z : w.len * (m + i) + v ≡ w.len * (m + j) + u
            = x.each (w.len * (m + i) + v) (w.len * (m + j) + u) (run_below g w k (m + i) v first p) (run_below g w k (m + j) u second q)
            (ap (λ (f : Operand → ℕ). f D) (sym (same_places first (b i (omega arith)) v p)) ∙ e ∙ ap (λ (f : Operand → ℕ). f D) (same_places second (b j few) u q)) in
            let above : m + i + 1 ≤ m + j = omega arith in
            omega (arith, z, mul-le-mul_left w.len above, mul-add w.len (m + i) 1)
