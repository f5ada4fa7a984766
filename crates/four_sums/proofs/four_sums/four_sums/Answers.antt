-- `four_sums` meets its contract. The invariant: the sums of each run of outputs have grown by the products at the counts of the first m runs of the depth group,
-- and where there is a run m, the digits and address words are where it begins for the first run of outputs. B's word of another run is as far from there as where
-- it began, and A's is the same.
-- Assumes nothing.
use Rattle.std.proofs.Common.{◌≡◌, ℕ, ◌+◌, ◌*◌, ◌^◌, ◌<◌, sym, refl, ap, ◌∙◌, mul-zero, arith}
use Rattle.words.specs.Words.{word}
use Rattle.words.specs.Sums.{sum_to}
use Rattle.contraction.specs.declared.contraction.Operand.TheVariants.{A, B}
use Rattle.offsets.specs.declared.offsets.Offsets.{Offsets}
use Rattle.offsets.specs.Offsets.{words_in}
use Rattle.offsets.proofs.OwnedWords.{words_fit}
use Rattle.dots.specs.Dot.{dot}
use Rattle.sums.specs.Walk.{over}
use Rattle.sums.proofs.GroupRuns.{first_run, next_run}
use Rattle.side_sums.proofs.SideTurns.{added_none}
use Rattle.groups.specs.Groups.{size}
use Rattle.four_lanes.proofs.ByRun.{by_run}
use Rattle.four_sums.specs.FourRunSums.{begins_of, Shared, RunInside}
use Rattle.four_sums.proofs.FourDepth.{OwnWords, first_place, moved_place, sums_from, four_inside, four_added}
use Rattle.four_sums.proofs.four_sums.four_sums.Goals as goal

-- the words of each run of outputs: B's of another run is as far from the first one's as it began
module _ (from : ℕ → Offsets) {along : Offsets} (s : Shared from along) where
  own_first : words_in (from 0) B < 2 ^ 64 → OwnWords along (from 0) (words_in (from 0) A) (words_in (from 0) B)
  own_first low = record { one = s.along; none = s.still; in_a = s.same 0; in_b = refl; low = low }

  own_other : (q to : ℕ) → words_in (from q) B ≡ word 64 (to + words_in (from 0) B) → OwnWords along (from q) (words_in (from 0) A) (word 64 (to + words_in (from 0) B))
  own_other q to e = record { one = s.along; none = s.still; in_a = s.same q; in_b = e; low = omega arith }

pub loop-m-init : goal.loop-m-init
unfolding dot sum_to
loop-m-init c =
    let x = c.args in (
      refl,
      λ h. first_run _ _ x.depth.now.walks x.depth.now.carried x.run.from (words_fit x.run.from.words _ c.well_formed.1.1.1.1.1.1.0.1.1.0.1.1.0.1.1),
      added_none x.run.len _ x.s0.now (λ r. rw mul-zero),
      added_none x.run.len _ x.s1.now (λ r. rw mul-zero),
      added_none x.run.len _ x.s2.now (λ r. rw mul-zero),
      added_none x.run.len _ x.s3.now (λ r. rw mul-zero),
    )

pub add_run-requires : goal.add_run-requires
add_run-requires c =
    let x = c.args in
    let l = c.loop-m in
    let k = x.depth.now.walks in
    let h : l._m < x.depth.now.walk.runs = omega arith in
    let s = l.invariant.1 h in
    let from = begins_of x.run x.next in
    let low = words_fit x.run.from.words _ c.well_formed.1.1.1.1.1.1.0.1.1.0.1.1.0.1.1 1 in (
      c.requires.0,
      c.requires.1,
      record {
        first = l.invariant.2.len ∙ c.requires.2.first;
        second = l.invariant.3.len ∙ c.requires.2.second;
        third = l.invariant.4.len ∙ c.requires.2.third;
        fourth = l.invariant.5.len ∙ c.requires.2.fourth;
      },
      by_run (RunInside x.run.len l.at x.depth.now.walk.step x.depth.now.walk.len x.a.now x.b.now)
          (four_inside k x.run.from h s (first_place k x.run.from h s) x.a.now x.b.now (own_first from c.requires.3 low) (c.requires.4 0))
          (four_inside k x.run.from h s (moved_place k x.run.from h s c.further-to_1.result) x.a.now x.b.now (own_other from c.requires.3 1 c.further-to_1.result c.further-to_1.ensures) (c.requires.4 1))
          (four_inside k x.run.from h s (moved_place k x.run.from h s c.further-to_2.result) x.a.now x.b.now (own_other from c.requires.3 2 c.further-to_2.result c.further-to_2.ensures) (c.requires.4 2))
          (four_inside k x.run.from h s (moved_place k x.run.from h s c.further-to_3.result) x.a.now x.b.now (own_other from c.requires.3 3 c.further-to_3.result c.further-to_3.ensures) (c.requires.4 3)),
    )

pub slice_bounds-advance-end : goal.slice_bounds-advance-end
slice_bounds-advance-end c = sym c.loop-m.invariant.0

pub advance-at-requires : goal.advance-at-requires
advance-at-requires c = omega (arith, c.args.depth.now.carried.few, c.loop-m.invariant.0)

pub loop-m-preserved : goal.loop-m-preserved
loop-m-preserved c =
    let x = c.args in
    let l = c.loop-m in
    let k = x.depth.now.walks in
    let h : l._m < x.depth.now.walk.runs = omega arith in
    let s = l.invariant.1 h in
    let e = c.add_run.ensures in (
      c.advance-at.auto.digits ∙ l.invariant.0,
      λ i. next_run _ _ k x.depth.now.carried c.advance-at.ensures s i,
      four_added k x.run.from h s (first_place k x.run.from h s) x.a.now x.b.now l.invariant.2 e.0,
      four_added k x.run.from h s (moved_place k x.run.from h s _) x.a.now x.b.now l.invariant.3 e.1,
      four_added k x.run.from h s (moved_place k x.run.from h s _) x.a.now x.b.now l.invariant.4 e.2,
      four_added k x.run.from h s (moved_place k x.run.from h s _) x.a.now x.b.now l.invariant.5 e.3,
    )

pub returns : goal.returns
returns c =
    let x = c.args in
    let l = c.loop-m in
    let k = x.depth.now.walks in
    let from = begins_of x.run x.next in
    let low = words_fit x.run.from.words _ c.well_formed.1.1.1.1.1.1.0.1.1.0.1.1.0.1.1 1 in
    let z : l._m ≡ x.depth.now.walk.runs = omega arith in
    let all : size (over x.depth.now.walk) ≡ x.depth.now.walk.len * l._m = k.counts ∙ ap (λ (u : ℕ). x.depth.now.walk.len * u) (sym z) in (
      sums_from (own_first from c.requires.3 low) (over x.depth.now.walk) x.a.now x.b.now (x.depth.now.walk.len * l._m) all l.invariant.2,
      sums_from (own_other from c.requires.3 1 c.further-to_1.result c.further-to_1.ensures) (over x.depth.now.walk) x.a.now x.b.now (x.depth.now.walk.len * l._m) all l.invariant.3,
      sums_from (own_other from c.requires.3 2 c.further-to_2.result c.further-to_2.ensures) (over x.depth.now.walk) x.a.now x.b.now (x.depth.now.walk.len * l._m) all l.invariant.4,
      sums_from (own_other from c.requires.3 3 c.further-to_3.result c.further-to_3.ensures) (over x.depth.now.walk) x.a.now x.b.now (x.depth.now.walk.len * l._m) all l.invariant.5,
    )
