-- `add_to_four` meets its contract. The invariant: the address words are v steps from the first, and each run's sums have grown by the products of v depth
-- counts.
-- Assumes nothing.
use Rattle.std.proofs.Common.{ℕ, ◌<◌, refl, List, length, arith}
use Rattle.words.specs.Stepped.{stepped}
use Rattle.words.proofs.Modular.{step_none, step_more}
use Rattle.side_sums.specs.SideSums.{side_run}
use Rattle.side_sums.proofs.SideTurns.{run_none}
use Rattle.four_lanes.specs.FourLanes.{LanesAdded}
use Rattle.four_lanes.proofs.LaneShared.{lane_room, lane_turn}
use Rattle.four_lanes.proofs.four_lanes.add_to_four.Goals as goal

pub loop-v-init : goal.loop-v-init
loop-v-init c =
    let x = c.args in
    let none : (y : ℕ) (old : List ℕ) → LanesAdded x.n 0 x.from_a x.step_a x.a.now y x.step_b x.b.now old old =
    λ y. run_none x.a.now x.b.now (side_run x.from_a 1 x.step_a) (λ r. stepped y x.step_b) x.n in (
      step_none x.step_a c.ranges.from_a.fits,
      step_none x.step_b c.ranges.from_0.fits,
      step_none x.step_b c.ranges.from_1.fits,
      step_none x.step_b c.ranges.from_2.fits,
      step_none x.step_b c.ranges.from_3.fits,
      none x.from_0 x.s0.now,
      none x.from_1 x.s1.now,
      none x.from_2 x.s2.now,
      none x.from_3 x.s3.now,
    )

pub offset_bounds-b-j0 : goal.offset_bounds-b-j0
offset_bounds-b-j0 c =
    let l = c.loop-v in
    let h : l.j0 < length c.args.b.now = rw l.invariant.1 (((c.requires.3 0).each 0 c.requires.0).in_b.each l._v (omega arith)) in
    omega arith

pub bounds-b-j0 : goal.bounds-b-j0
bounds-b-j0 c =
    let l = c.loop-v in
    rw l.invariant.1 (((c.requires.3 0).each 0 c.requires.0).in_b.each l._v (omega arith))

pub offset_bounds-b-j1 : goal.offset_bounds-b-j1
offset_bounds-b-j1 c =
    let l = c.loop-v in
    let h : l.j1 < length c.args.b.now = rw l.invariant.2 (((c.requires.3 1).each 0 c.requires.0).in_b.each l._v (omega arith)) in
    omega arith

pub bounds-b-j1 : goal.bounds-b-j1
bounds-b-j1 c =
    let l = c.loop-v in
    rw l.invariant.2 (((c.requires.3 1).each 0 c.requires.0).in_b.each l._v (omega arith))

pub offset_bounds-b-j2 : goal.offset_bounds-b-j2
offset_bounds-b-j2 c =
    let l = c.loop-v in
    let h : l.j2 < length c.args.b.now = rw l.invariant.3 (((c.requires.3 2).each 0 c.requires.0).in_b.each l._v (omega arith)) in
    omega arith

pub bounds-b-j2 : goal.bounds-b-j2
bounds-b-j2 c =
    let l = c.loop-v in
    rw l.invariant.3 (((c.requires.3 2).each 0 c.requires.0).in_b.each l._v (omega arith))

pub offset_bounds-b-j3 : goal.offset_bounds-b-j3
offset_bounds-b-j3 c =
    let l = c.loop-v in
    let h : l.j3 < length c.args.b.now = rw l.invariant.4 (((c.requires.3 3).each 0 c.requires.0).in_b.each l._v (omega arith)) in
    omega arith

pub bounds-b-j3 : goal.bounds-b-j3
bounds-b-j3 c =
    let l = c.loop-v in
    rw l.invariant.4 (((c.requires.3 3).each 0 c.requires.0).in_b.each l._v (omega arith))

pub add_lane_to_four-requires : goal.add_lane_to_four-requires
add_lane_to_four-requires c =
    let x = c.args in
    let l = c.loop-v in
    (c.requires.1, lane_room c.requires.0 c.requires.1 x.a.now (omega arith) x.from_a x.step_a {len = x.len} {v = l._v} l.invariant.0 (omega arith) (λ r h. ((c.requires.3 0).each r h).in_a))

pub loop-v-preserved : goal.loop-v-preserved
loop-v-preserved c =
    let x = c.args in
    let l = c.loop-v in
    let h : l._v < x.len = omega arith in
    let e = c.add_lane_to_four.ensures in
    let turn = lane_turn c.requires.0 c.requires.1 x.a.now (omega arith) x.from_a x.step_a {len = x.len} {v = l._v} l.invariant.0 h (λ r i. ((c.requires.3 0).each r i).in_a) x.b.now in (
      step_more x.from_a x.step_a l._v l.invariant.0 refl,
      step_more x.from_0 x.step_b l._v l.invariant.1 refl,
      step_more x.from_1 x.step_b l._v l.invariant.2 refl,
      step_more x.from_2 x.step_b l._v l.invariant.3 refl,
      step_more x.from_3 x.step_b l._v l.invariant.4 refl,
      turn x.from_0 x.step_b _ _ _ _ l.invariant.1 c.requires.2.first l.invariant.5 e.0,
      turn x.from_1 x.step_b _ _ _ _ l.invariant.2 c.requires.2.second l.invariant.6 e.1,
      turn x.from_2 x.step_b _ _ _ _ l.invariant.3 c.requires.2.third l.invariant.7 e.2,
      turn x.from_3 x.step_b _ _ _ _ l.invariant.4 c.requires.2.fourth l.invariant.8 e.3,
    )
