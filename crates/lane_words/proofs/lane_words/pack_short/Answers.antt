-- `pack_short` meets its contract: one word or two, each at its place.
-- Assumes nothing.
use Rattle.std.proofs.Common.{◌≡◌, ℕ, get_or, ap, arith}
use Rattle.words.specs.Stepped.{stepped}
use Rattle.words.proofs.Modular.{step_none, second_place}
use Rattle.words.proofs.Fronts.{stored_one, stored_two}
use Rattle.lane_words.proofs.lane_words.pack_short.Goals as goal

pub returns-then-n-eq2 : goal.returns-then-n-eq2
returns-then-n-eq2 c =
    let a = c.args in
    let v : ℕ → ℕ = λ k. get_or a.src.now (stepped a.at a.step k) 0 in
    rw c.if-n-eq2.true
    (stored_two v a.to a.out.now (ap (λ (p : ℕ). get_or a.src.now p 0) (step_none {x = a.at} a.step (omega (arith, c.ranges.at))))
    (ap (λ (p : ℕ). get_or a.src.now p 0) (second_place a.at a.step)))

pub returns-else-n-eq2 : goal.returns-else-n-eq2
returns-else-n-eq2 c =
    let a = c.args in
    let one : a.n ≡ 1 = omega arith in
    rw one
    (stored_one (λ k. get_or a.src.now (stepped a.at a.step k) 0) a.to a.out.now
    (ap (λ (p : ℕ). get_or a.src.now p 0) (step_none {x = a.at} a.step (omega (arith, c.ranges.at)))))
