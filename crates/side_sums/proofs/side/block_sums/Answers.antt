-- `block_sums` meets its contract. The invariant: each sum has grown by the products at the counts of the first m runs, and where there is a run m, the digits
-- and address words are where it begins. A run's places are those of its counts.
-- Assumes nothing.
use Rattle.std.proofs.Common.{◌≡◌, ℕ, ◌+◌, ◌*◌, ◌<◌, List, drop, replicate, sym, refl, ◌∙◌, mul-zero, arith}
use Rattle.words.specs.Sums.{sum_to}
use Rattle.limits.specs.Limits.{block_limit}
use Rattle.contraction.specs.declared.contraction.Operand.{Operand}
use Rattle.contraction.specs.declared.contraction.Operand.TheVariants.{A, B}
use Rattle.groups.specs.Groups.{Label}
use Rattle.offsets.specs.declared.offsets.Offsets.{Offsets}
use Rattle.offsets.specs.Offsets.{words_in}
use Rattle.offsets.proofs.OwnedWords.{words_fit}
use Rattle.odometer.specs.Odometer.{Stands}
use Rattle.sums.specs.declared.walk.Walk.{Walk}
use Rattle.dots.specs.Dot.{dot}
use Rattle.sums.specs.Walk.{reached, steps, sum_from, Walks}
use Rattle.sums.proofs.GroupRuns.{run_place, first_run, next_run}
use Rattle.side_sums.specs.SideSums.{side_run, Added, RunsInside, AllReadable}
use Rattle.side_sums.proofs.SideTurns.{added_none}
use Rattle.side_sums.proofs.GroupSums.{up_to, run_inside, run_added, total}
use Rattle.side_sums.proofs.side.block_sums.Goals as goal

-- run m, from where it begins, for the output r steps along
module _ {g : List Label} {w : Walk} (k : Walks g w) (from along : Offsets) {m : ℕ} (h : m < w.runs) {array : List ℕ} {at : Offsets}
    (s : Stands (drop 1 g) (words_in from) m array at) where
  abbrev side : Operand → ℕ → ℕ → ℕ
  side o = side_run (words_in at o) (words_in along o) (words_in w.step o)

  place : (o : Operand) (r v : ℕ) → v < w.len → side o r v ≡ reached o (steps from along r o) g (w.len * m + v)
  place o r v i = omega (arith, run_place g w k h s o v i)

  inside : {n : ℕ} {a b : List ℕ} → AllReadable n g a b (steps from along) → RunsInside n w.len (side A) (side B) a b
  inside q = run_inside k h _ _ (side A) (side B) (place A) (place B) (λ r l. (q.each r l).in_a) (λ r l. (q.each r l).in_b)

  turn : {n : ℕ} (a b : List ℕ) {old mid new : List ℕ} → Added n (λ r. up_to g a b (w.len * m) (steps from along r A) (steps from along r B)) old mid
      → Added n (λ r. dot w.len (side A r) a (side B r) b) mid new → Added n (λ r. up_to g a b (w.len * (m + 1)) (steps from along r A) (steps from along r B)) old new
  turn = run_added k h (λ r. steps from along r A) (λ r. steps from along r B) (side A) (side B) (place A) (place B)

pub loop-m-init : goal.loop-m-init
unfolding dot sum_to
loop-m-init c = (
  refl,
  added_none c.args.run.len _ (replicate block_limit 0) (λ r. rw mul-zero),
  λ h. first_run _ _ c.args.depth.now.walks c.args.depth.now.carried c.args.run.from (words_fit c.args.run.from.words _ c.well_formed.1.1.0.1.1.0.1.1.0.1.1),
)

pub add_run-requires : goal.add_run-requires
add_run-requires c =
    let l = c.loop-m in
    let h : l._m < c.args.depth.now.walk.runs = omega arith in (
      c.requires.0,
      c.requires.1,
      l.invariant.1.len,
      rw (c.of.ensures, c.of-in-loop-m.ensures, c.of-in-loop-m-2.ensures, c.of-in-loop-m-3.ensures, c.of-in-loop-m-4.ensures, c.of-in-loop-m-5.ensures)
          (inside c.args.depth.now.walks c.args.run.from c.args.run.step h (l.invariant.2 h) c.requires.2),
    )

pub slice_bounds-advance-end : goal.slice_bounds-advance-end
slice_bounds-advance-end c = sym c.loop-m.invariant.0

pub advance-at-requires : goal.advance-at-requires
advance-at-requires c = omega (arith, c.args.depth.now.carried.few, c.loop-m.invariant.0)

pub loop-m-preserved : goal.loop-m-preserved
loop-m-preserved c =
    let l = c.loop-m in
    let h : l._m < c.args.depth.now.walk.runs = omega arith in (
      c.advance-at.auto.digits ∙ l.invariant.0,
      turn c.args.depth.now.walks c.args.run.from c.args.run.step h (l.invariant.2 h) c.args.a.now c.args.b.now l.invariant.1
          (rw (c.of.ensures, c.of-in-loop-m.ensures, c.of-in-loop-m-2.ensures, c.of-in-loop-m-3.ensures, c.of-in-loop-m-4.ensures, c.of-in-loop-m-5.ensures) at c.add_run.ensures),
      λ i. next_run _ _ c.args.depth.now.walks c.args.depth.now.carried c.advance-at.ensures (l.invariant.2 h) i,
    )

pub returns : goal.returns
unfolding sum_from
returns c =
    let l = c.loop-m in
    let z : l._m ≡ c.args.depth.now.walk.runs = omega arith in
    total c.requires.1 (rw (z, ← c.args.depth.now.walks.counts) at l.invariant.1)
