-- `sum_of_runs` meets its contract. The invariant: the sum is the word of the dot product over the counts of the first m runs, and where there is a run m, the
-- digits and address words are where it begins. A run's places are those of its counts, so its sum is the next part of that product.
-- Assumes nothing.
use Rattle.std.proofs.Common.{◌≡◌, ℕ, ◌+◌, ◌*◌, ◌<◌, List, drop, sym, refl, ap, ◌∙◌, mul-zero, mul-suc, add-one, arith}
use Rattle.words.specs.Words.{word}
use Rattle.words.specs.Sums.{sum_to}
use Rattle.words.specs.Loops.{Within}
use Rattle.words.specs.Stepped.{stepped}
use Rattle.words.proofs.Sums.{sum_to_ext, sum_to_add}
use Rattle.contraction.specs.declared.contraction.Operand.{Operand}
use Rattle.contraction.specs.declared.contraction.Operand.TheVariants.{A, B}
use Rattle.groups.specs.Groups.{Label, size}
use Rattle.offsets.specs.declared.offsets.Offsets.{Offsets}
use Rattle.offsets.specs.Offsets.{words_in}
use Rattle.offsets.proofs.OwnedWords.{words_fit}
use Rattle.odometer.specs.Odometer.{Stands}
use Rattle.sums.specs.declared.walk.Walk.{Walk}
use Rattle.dots.specs.Dot.{dot}
use Rattle.sums.specs.Walk.{reached, sum_from, Walks}
use Rattle.sums.proofs.GroupRuns.{run_below, run_place, first_run, next_run}
use Rattle.sums.proofs.sum.sum_of_runs.Invariants.{term}
use Rattle.sums.proofs.sum.sum_of_runs.Goals as goal

-- two parts of a sum, by their words
parts : (n m : ℕ) (f : ℕ → ℕ) {s p r : ℕ} → s ≡ word 32 (sum_to n f) → p ≡ word 32 (sum_to m (λ i. f (n + i))) → r ≡ word 32 (s + p) → r ≡ word 32 (sum_to (n + m) f)
parts n m f es ep er = rw (sum_to_add n m f) (omega arith)

-- run m, from where it begins
module _ {g : List Label} {w : Walk} (k : Walks g w) {x : Operand → ℕ} {m : ℕ} (h : m < w.runs) {array : List ℕ} {at : Offsets} (s : Stands (drop 1 g) x m array at) where
  place : (o : Operand) (v : ℕ) → v < w.len → stepped (words_in at o) (words_in w.step o) v ≡ reached o (x o) g (w.len * m + v)
  place = run_place g w k h s

  inside : (o : Operand) (n : ℕ) → Within (size g) (reached o (x o) g) n → Within w.len (stepped (words_in at o) (words_in w.step o)) n
  inside o n i = record { each = λ v l. rw (place o v l) (i.each (w.len * m + v) (run_below g w k m v h l)) }

  turn : (a b : List ℕ) {t p r : ℕ} → t ≡ word 32 (sum_to (w.len * m) (term g a b x))
      → p ≡ word 32 (dot w.len (stepped (words_in at A) (words_in w.step A)) a (stepped (words_in at B) (words_in w.step B)) b)
      → r ≡ word 32 (t + p) → r ≡ word 32 (sum_to (w.len * (m + 1)) (term g a b x))
  unfolding dot
  turn a b es ep er =
      rw (add-one, mul-suc)
      (parts (w.len * m) w.len (term g a b x) es (ep ∙ ap (word 32) (sum_to_ext w.len (λ v l. rw (place A v l, place B v l)))) er)

pub loop-m-init : goal.loop-m-init
unfolding sum_to
loop-m-init c =
    (refl, rw mul-zero, λ h. first_run _ _ c.args.depth.now.walks c.args.depth.now.carried c.args.from (words_fit c.args.from.words _ c.well_formed.1.1.0.1.1.0.1.1))

pub run_sum-run-requires : goal.run_sum-run-requires
run_sum-run-requires c =
    let l = c.loop-m in
    let h : l._m < c.args.depth.now.walk.runs = omega arith in
    let run = inside c.args.depth.now.walks h (l.invariant.2 h) in
    record { in_a = rw (c.of-i.ensures, c.of-step_a.ensures) (run A _ c.requires.in_a); in_b = rw (c.of-j.ensures, c.of-step_b.ensures) (run B _ c.requires.in_b) }

pub slice_bounds-advance-end : goal.slice_bounds-advance-end
slice_bounds-advance-end c = sym c.loop-m.invariant.0

pub advance-at-requires : goal.advance-at-requires
advance-at-requires c = omega (arith, c.args.depth.now.carried.few, c.loop-m.invariant.0)

pub loop-m-preserved : goal.loop-m-preserved
loop-m-preserved c =
    let l = c.loop-m in
    let h : l._m < c.args.depth.now.walk.runs = omega arith in (
      c.advance-at.auto.digits ∙ l.invariant.0,
      turn c.args.depth.now.walks h (l.invariant.2 h) c.args.a.now c.args.b.now l.invariant.1
          (rw (c.of-i.ensures, c.of-j.ensures, c.of-step_a.ensures, c.of-step_b.ensures) at c.run_sum-run.ensures)
          refl,
      λ i. next_run _ _ c.args.depth.now.walks c.args.depth.now.carried c.advance-at.ensures (l.invariant.2 h) i,
    )

pub returns : goal.returns
unfolding sum_from dot
returns c =
    let l = c.loop-m in
    let z : l._m ≡ c.args.depth.now.walk.runs = omega arith in
    rw (z, ← c.args.depth.now.walks.counts) at l.invariant.1
