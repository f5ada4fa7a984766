-- `contraction_in` meets its contract: each layout is the one that stands at the tensor's part of the file.
-- Assumes nothing.
use mathlib.Core.Path.{◌∙◌}
use Rattle.std.proofs.Common.{rules}
use Rattle.decode.proofs.Decoded.{with_its_c}
use Rattle.decode.proofs.decode.contraction_in.Goals as goal

pub returns : goal.returns
returns c =
    let job = c.args.job in
    c.of.ensures
    ∙ rw (c.layout_in.ensures, c.layout_in-2.ensures, c.layout_in-3.ensures)
    (with_its_c c.args.file.now job.c job.d _ _ _ job.go.alpha job.go.beta c.map.result _ (λ x l e. search rules) c.map.ensures.cases)
