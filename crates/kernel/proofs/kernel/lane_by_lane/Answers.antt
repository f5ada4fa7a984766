-- `lane_by_lane` meets its contract. The invariant: the sums are those of the first d depth counts.
use Rattle.std.proofs.Common.{refl}
use Rattle.kernel.proofs.Columns.{lanes_none, lanes_turn}
use Rattle.kernel.proofs.kernel.lane_by_lane.Goals as goal

pub loop-d-init : goal.loop-d-init
loop-d-init c = lanes_none c.args.work.now c.args.base c.args.width c.args.count c.args.from c.args.step c.requires.few

pub loop-d-preserved : goal.loop-d-preserved
loop-d-preserved c =
    let a = c.args in
    let l = c.loop-d in
    lanes_turn a.work.now a.base a.width a.count a.from a.step c.requires.few l.d l.invariant refl c.add_scaled.ensures
