-- `store_column` meets its contract. The invariant: D's words are those that r rows leave. A turn adds the sums of two rows, or those of the stretch from row r on,
-- whose places are those of the block; after the loop at most one row is left. The measure is how many rows are left.
use Rattle.std.proofs.Common.{◌≡◌, ℕ, ◌+◌, List, get_or, refl, ap, ◌∙◌, arith}
use Rattle.words.specs.Loops.{each, put}
use Rattle.words.specs.Stepped.{stepped}
use Rattle.words.proofs.Loops.{each_more, each_next}
use Rattle.block.specs.Places.{place_of}
use Rattle.block.proofs.Stretches.{stretch_of, within_stretch}
use Rattle.accumulate.specs.Added.{added_to}
use Rattle.store.proofs.store.store_column.Invariants.{row_added}
use Rattle.store.proofs.store.store_column.Goals as goal

pub loop-r-init : goal.loop-r-init
unfolding each
loop-r-init c = (omega arith, refl, refl)

pub loop-r-preserved-then-n-lt8 : goal.loop-r-preserved-then-n-lt8
loop-r-preserved-then-n-lt8 c =
    let a = c.args in
    let l = c.loop-r in
    let body = row_added a.f a.sums.now a.from a.offsets.now in
    let e : l.r + 1 + 1 ≡ l.r + 2 = omega arith in
    let one = each_next body l.r a.d.now l.invariant.2 c.add_row.ensures in
    (omega arith, c.add_row-then-n-lt8.auto.d ∙ c.add_row.auto.d ∙ l.invariant.1, rw e at (each_next body (l.r + 1) a.d.now one c.add_row-then-n-lt8.ensures))

pub add_stretch-requires : goal.add_stretch-requires
add_stretch-requires c =
    let a = c.args in
    let l = c.loop-r in
    let t = stretch_of a.from a.offsets.now a.count l.r c.requires.0 (omega arith) refl c.step_at.ensures c.requires.1 c.from-n.ensures in
    (t.some, rw l.invariant.1 (within_stretch t c.requires.2), omega (arith, t.fits, c.requires.0))

pub loop-r-preserved : goal.loop-r-preserved
loop-r-preserved c =
    let a = c.args in
    let l = c.loop-r in
    let t = stretch_of a.from a.offsets.now a.count l.r c.requires.0 (omega arith) refl c.step_at.ensures c.requires.1 c.from-n.ensures in
    let n = c.from-n.result in
    let at = place_of a.from a.offsets.now l.r in
    let more : ℕ → List ℕ → List ℕ = λ k. put (added_to a.f (get_or a.sums.now (l.r + k) 0)) (stepped at c.step_at.result k) in (
      t.fits,
      c.add_stretch.auto.d ∙ l.invariant.1,
      c.add_stretch.ensures ∙ ap (each n more) l.invariant.2
          ∙ each_more l.r n (row_added a.f a.sums.now a.from a.offsets.now) more a.d.now
          (λ k h E. ap (λ (p : ℕ). put (added_to a.f (get_or a.sums.now (l.r + k) 0)) p E) (t.place k h)),
    )

pub returns-then-r-count : goal.returns-then-r-count
returns-then-r-count c =
    let a = c.args in
    let l = c.loop-r in
    let e : l.r + 1 ≡ a.count = omega arith in
    rw e at (each_next (row_added a.f a.sums.now a.from a.offsets.now) l.r a.d.now l.invariant.2 c.add_row-then-r-count.ensures)
