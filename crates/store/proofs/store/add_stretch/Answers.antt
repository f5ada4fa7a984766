-- `add_stretch` meets its contract: with step 1 the places stand one after the other, and do not wrap.
-- Assumes nothing.
use Rattle.std.proofs.Common.{ℕ, ◌+◌, get_or, ap, ◌∙◌, arith}
use Rattle.words.specs.Loops.{put}
use Rattle.words.proofs.Loops.{each_ext}
use Rattle.words.proofs.Modular.{row_place_lem}
use Rattle.accumulate.specs.Added.{added_to}
use Rattle.store.proofs.store.add_stretch.Goals as goal

pub returns-then-step-eq1 : goal.returns-then-step-eq1
returns-then-step-eq1 c =
    let one = c.if-step-eq1.true in
    c.add_contiguous.ensures
    ∙ each_ext c.args.n
    (λ k h E.
    ap (λ (p : ℕ). put (added_to c.args.f (get_or c.args.sums.now (c.args.r + k) 0)) p E)
    (rw one (row_place_lem {x = c.args.at} (omega (arith, c.ranges.at)) c.requires.0 (omega arith) (omega (arith, c.well_formed.0.1)) (rw one at c.requires.1) k h)))
    c.args.d.now
