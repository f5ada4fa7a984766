-- `step_of` meets its contract: fewer than two offsets are even with step 0, and of more the block is even exactly when its longest even beginning is all of it.
-- Assumes nothing.
use Rattle.std.proofs.Common.{arith}
use Rattle.block.proofs.Stretches.{step_few, step_scattered, step_even}
use Rattle.block.proofs.block.step_of.Goals as goal

pub returns-then-n-lt2 : goal.returns-then-n-lt2
returns-then-n-lt2 c = step_few c.args.offsets.now c.args.n c.requires.0 (omega arith)

pub returns-then-len-n : goal.returns-then-len-n
returns-then-len-n c = step_scattered c.args.offsets.now c.args.n c.requires.0 (omega arith)

pub returns : goal.returns
returns c =
    rw (c.step_at-s.ensures (omega arith)).is (step_even c.args.offsets.now c.args.n c.requires.0 (omega arith) (omega arith))
