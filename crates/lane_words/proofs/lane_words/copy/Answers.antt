-- `copy` meets its contract: a turn stores one word more.
-- Assumes nothing.
use Rattle.std.proofs.Common.{◌+◌, get_or, sym, refl, length-set}
use Rattle.words.proofs.Fronts.{stored_none, stored_set}
use Rattle.lane_words.proofs.lane_words.copy.Goals as goal

pub loop-k-init : goal.loop-k-init
loop-k-init c = (refl, sym (stored_none (λ j. get_or c.args.src.now (c.args.at + j) 0) c.args.to c.args.out.now))

pub loop-k-preserved : goal.loop-k-preserved
loop-k-preserved c =
    let l = c.loop-k in
    let s = c.args in
    (simp length-set l.invariant.0, stored_set l.k (λ j. get_or s.src.now (s.at + j) 0) s.to s.out.now l.invariant.1 refl)
