-- `row_lanes` meets its contract: a row's sums are those of packed B's lanes, with A and B exchanged.
-- Assumes nothing.
use Rattle.std.proofs.Common.{◌+◌, sym, ap, ◌∙◌}
use Rattle.words.specs.Words.{word}
use Rattle.kernel.proofs.Columns.{exchanged}
use Rattle.kernel.proofs.kernel.row_lanes.Goals as goal

pub returns : goal.returns
returns c =
    let t = c.args.t.now in
    record {
      each = λ i h. c.lane_by_lane.ensures.each i h ∙ sym (ap (word 32) (exchanged t.work.now t.rows (c.args.behind + i) t.cols t.depth c.args.r));
    }
