-- `fill` meets its contract. The invariant, with m for the run of `start`: the words of D are those that the counts of the first m runs leave, and
-- where there is a run m, the digits and address words are where it begins. A turn fills the places of that run or of four, which are those of the
-- counts from len × m on. The measure is how many runs are left.
-- Assumes nothing.
use mathlib.Core.Path.{◌≡◌, refl, ap, sym, ◌∙◌}
use mathlib.Core.List.{List}
use Prim.Native.Nat.{ℕ, ◌+◌, ◌*◌, ◌<◌}
use native.Mathlib.Nat.{mul-zero, mul-add}
use native.Mathlib.Omega.{arith}
use Rattle.words.specs.Loops.{each}
use Rattle.words.proofs.Loops.{each_add}
use Rattle.offsets.proofs.OwnedWords.{words_fit}
use Rattle.sums.specs.Walk.{places, over}
use Rattle.sums.proofs.GroupRuns.{first_run}
use Rattle.output_run.specs.FilledOutput.{filled_of}
use Rattle.next_runs.proofs.RunsSoFar.{behind}
use Rattle.direct.proofs.fill.fill.Goals as goal

-- D's words after m runs, and after r more
turn : (len m r : ℕ) (body : ℕ → List ℕ → List ℕ) (d₀ : List ℕ) {d e : List ℕ} → d ≡ each (len * m) body d₀ → e ≡ each (len * r) (λ v. body (len * m + v)) d
    → e ≡ each (len * (m + r)) body d₀
turn len m r body d₀ i j = rw mul-add (j ∙ ap (each (len * r) (λ v. body (len * m + v))) i ∙ sym (each_add (len * m) (len * r) body d₀))

pub loop-start-init : goal.loop-start-init
unfolding each
loop-start-init c = (
  omega arith,
  refl,
  refl,
  rw mul-zero,
  λ h. first_run _ _ c.requires.outputs c.tabulate-rows.ensures c.args.base
      (words_fit c.args.base.words _ c.well_formed.1.1.0.1.1.0.1.1),
)

pub loop-start-preserved : goal.loop-start-preserved
loop-start-preserved c =
    let x = c.args in
    let l = c.loop-start in
    let f = c.fill_next-n in
    let h : l.start.run < x.output.runs = c.loop-start-test.true in (
      f.ensures.1,
      c.advance_by-start.auto.digits ∙ l.invariant.1,
      f.auto.d ∙ l.invariant.2,
      turn x.output.len l.start.run f.result (λ n. filled_of x.x.now (over x.depth) (places x.base (over x.output) n))
          x.d.now l.invariant.3 f.ensures.2,
      λ i. c.advance_by-start.ensures.next _ _ _ (behind c.requires.outputs x.base (l.start.run + f.result) i) c.tabulate-rows.ensures.tabled (l.invariant.4 h),
    )

pub invariant_of-depths-clause-carried : goal.invariant_of-depths-clause-carried
invariant_of-depths-clause-carried c = c.tabulate-depth_rows.ensures
