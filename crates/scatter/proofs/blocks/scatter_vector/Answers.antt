-- `scatter_vector` meets its contract: the counts of a single label lie a step apart from the first one on.
-- Assumes nothing.
use Rattle.std.proofs.Common.{refl, ◌∙◌, arith}
use Rattle.scatter.proofs.Vectors.{stepped_vector}
use Rattle.scatter.proofs.blocks.scatter_vector.Goals as goal

pub returns-then-g-lt2 : goal.returns-then-g-lt2
returns-then-g-lt2 c =
    let x = c.args in
    c.step_vector.ensures
    ∙ stepped_vector _ x.g.now (omega arith) c.first_step-step.ensures x.from x.first x.count x.out.now
    c.scale.ensures refl c.requires.2
