-- `add_moving` meets its contract. The invariant: the address words are v steps from the first, and each sum has grown by the products of v depth counts.
-- Assumes nothing.
use Rattle.std.proofs.Common.{refl, arith}
use Rattle.words.proofs.Modular.{step_none, step_more}
use Rattle.lanes.specs.LaneProducts.{products}
use Rattle.side_sums.specs.SideSums.{side_run}
use Rattle.side_sums.proofs.SideTurns.{crossed, across, run_none, run_turn}
use Rattle.side_sums.proofs.side.add_moving.Goals as goal

pub loop-v-init : goal.loop-v-init
loop-v-init c =
    let x = c.args in (
      step_none x.a.now.step (omega arith),
      step_none x.b.now.step (omega arith),
      run_none x.a.now.words.now x.b.now.words.now (side_run x.a.now.from x.a.now.along x.a.now.step) (side_run x.b.now.from x.b.now.along x.b.now.step) x.n x.sums.now,
    )

pub add_products-requires : goal.add_products-requires
add_products-requires c =
    let x = c.args in
    let l = c.loop-v in (
      c.requires.0,
      c.requires.1,
      across x.a.now.from x.a.now.step x.a.now.along l._v l.invariant.0 (omega arith) (λ r h. (c.requires.3.each r h).in_a),
      across x.b.now.from x.b.now.step x.b.now.along l._v l.invariant.1 (omega arith) (λ r h. (c.requires.3.each r h).in_b),
    )

pub loop-v-preserved : goal.loop-v-preserved
loop-v-preserved c =
    let x = c.args in
    let l = c.loop-v in (
      step_more x.a.now.from x.a.now.step l._v l.invariant.0 refl,
      step_more x.b.now.from x.b.now.step l._v l.invariant.1 refl,
      run_turn x.a.now.words.now x.b.now.words.now (side_run x.a.now.from x.a.now.along x.a.now.step) (side_run x.b.now.from x.b.now.along x.b.now.step) x.n l._v
          (products x.a.now.words.now l.i x.a.now.along x.b.now.words.now l.j x.b.now.along) c.requires.1 c.requires.2 l.invariant.2 c.add_products.ensures
          (λ r h. rw (crossed x.a.now.from x.a.now.step x.a.now.along l._v r l.invariant.0, crossed x.b.now.from x.b.now.step x.b.now.along l._v r l.invariant.1)),
    )
