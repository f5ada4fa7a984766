use Rattle.std.proofs.Common.{rules, ◌++◌, take, drop, subst, ap, sym, ◌∙◌, take-add}
use Rattle.std.specs.Io.KnownBytes.{Consumes}
use Rattle.std.proofs.KnownBytes.{Consumes-trans}
use Rattle.nezgrak_job.proofs.load.Goals as goal

pub loop-at-preserved : goal.loop-at-preserved
loop-at-preserved g c =
    let at = c.loop-at.at in
    let more = c.in_ok-more.more in
    let buf = c.read_on.new.buf in
    let joined = ap (λ l. l ++ take more (drop at buf)) (sym c.in_ok-more.ensures.before) ∙ sym (take-add at more buf) in
    (search rules, search rules, subst (Consumes _ _) joined (Consumes-trans _ _ _ _ _ c.loop-at.invariant.2 c.in_ok-more.ensures.bytes.0))
