-- `Block::of` meets its contract: the step and the lengths are those of the count as clipped, and so of the count.
-- Assumes nothing.
use Rattle.std.proofs.Common.{refl, ◌∙◌}
use Rattle.block.proofs.Stretches.{clipped_step, clipped_lengths}
use Rattle.block.proofs.block.Block.of.Goals as goal

pub returns : goal.returns
returns c =
    let n = c.min-n.ensures in
    record {
      holds = refl;
      used = n;
      step = c.step_of-step.ensures ∙ clipped_step c.args.offsets c.args.count n;
      lengths = clipped_lengths c.args.offsets c.args.count n c.lengths_of-lengths.ensures;
    }
