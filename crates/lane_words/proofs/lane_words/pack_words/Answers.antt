-- `pack_words` meets its contract: with step 1 the places stand one after the other, and do not wrap.
-- Assumes nothing.
use Rattle.std.proofs.Common.{◌≡◌, ℕ, ◌+◌, get_or, ap, ◌∙◌, arith}
use Rattle.words.specs.Stepped.{stepped}
use Rattle.words.proofs.Modular.{row_place_lem}
use Rattle.words.proofs.Fronts.{stored_ext}
use Rattle.lane_words.proofs.lane_words.pack_words.Goals as goal

pub returns-then-step-eq1 : goal.returns-then-step-eq1
returns-then-step-eq1 c =
    let a = c.args in
    let one : a.step ≡ 1 = c.if-step-eq1.true in
    c.copy.ensures
    ∙ stored_ext a.n (λ k. get_or a.src.now (a.at + k) 0) (λ k. get_or a.src.now (stepped a.at a.step k) 0) a.to a.out.now
    (λ k h. ap (λ (p : ℕ). get_or a.src.now p 0)
    (rw one (row_place_lem {x = a.at} (omega (arith, c.ranges.at)) c.requires.0 (omega arith) (omega (arith, c.well_formed.0.1)) (rw one at c.requires.2) k h)))
