-- `add_still` meets its contract. The invariant: the address words are v steps from the first, and each sum has grown by the products of v depth counts.
-- Assumes nothing.
use Rattle.std.proofs.Common.{◌<◌, refl, length, arith}
use Rattle.words.specs.Stepped.{stepped}
use Rattle.words.proofs.Modular.{step_none, step_more}
use Rattle.side_sums.specs.SideSums.{side_run}
use Rattle.side_sums.proofs.SideTurns.{crossed, across, run_none, run_turn}
use Rattle.side_sums.proofs.side.add_still.Goals as goal

pub loop-v-init : goal.loop-v-init
loop-v-init c =
    let x = c.args in (
      step_none x.x.now.step (omega arith),
      step_none x.y.now.step (omega arith),
      run_none x.x.now.words.now x.y.now.words.now (side_run x.x.now.from x.x.now.along x.x.now.step) (λ r. stepped x.y.now.from x.y.now.step) x.n x.sums.now,
    )

pub offset_bounds-y-j : goal.offset_bounds-y-j
offset_bounds-y-j c =
    let l = c.loop-v in
    let h : l.j < length c.args.y.now.words.now = rw l.invariant.1 ((c.requires.3.each 0 c.requires.0).in_b.each l._v (omega arith)) in
    omega arith

pub bounds-y-j : goal.bounds-y-j
bounds-y-j c =
    let l = c.loop-v in
    rw l.invariant.1 ((c.requires.3.each 0 c.requires.0).in_b.each l._v (omega arith))

pub add_times-requires : goal.add_times-requires
add_times-requires c =
    let x = c.args in
    let l = c.loop-v in
    (c.requires.0, c.requires.1, across x.x.now.from x.x.now.step x.x.now.along l._v l.invariant.0 (omega arith) (λ r h. (c.requires.3.each r h).in_a))

pub loop-v-preserved : goal.loop-v-preserved
loop-v-preserved c =
    let x = c.args in
    let l = c.loop-v in (
      step_more x.x.now.from x.x.now.step l._v l.invariant.0 refl,
      step_more x.y.now.from x.y.now.step l._v l.invariant.1 refl,
      run_turn x.x.now.words.now x.y.now.words.now (side_run x.x.now.from x.x.now.along x.x.now.step) (λ r. stepped x.y.now.from x.y.now.step) x.n l._v
          _ c.requires.1 c.requires.2 l.invariant.2 c.add_times.ensures
          (λ r h. rw (crossed x.x.now.from x.x.now.step x.x.now.along l._v r l.invariant.0, l.invariant.1)),
    )
