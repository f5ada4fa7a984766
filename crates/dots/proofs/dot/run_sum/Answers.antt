-- `run_sum` meets its contract: where both steps are 1 the places stand one after the other, and do not wrap.
-- Assumes nothing.
use Rattle.std.proofs.Common.{◌≡◌, ℕ, ◌≤◌, true, ◌&&◌, eqb, leb, ap, ◌∙◌, arith, leb-true}
use Rattle.words.specs.Words.{word}
use Rattle.words.proofs.Lists.{eqb-true}
use Rattle.words.proofs.Modular.{row_place_lem}
use Rattle.words.proofs.Sums.{both_true}
use Rattle.dots.proofs.Products.{dot_ext}
use Rattle.dots.proofs.dot.run_sum.Goals as goal

-- what the test says
in_rows : (p q n : ℕ) → (eqb p 1 && (eqb q 1 && leb 1 n)) ≡ true → (p ≡ 1) × (q ≡ 1) × (1 ≤ n)
in_rows p q n e =
    let x = both_true (eqb p 1) (eqb q 1 && leb 1 n) e in
    let y = both_true (eqb q 1) (leb 1 n) x.1 in
    (eqb-true p 1 x.0, eqb-true q 1 y.0, leb-true 1 n y.1)

pub returns-then-step_a-step_b : goal.returns-then-step_a-step_b
returns-then-step_a-step_b c =
    let a = c.args in
    let w = in_rows a.step_a a.step_b a.len c.if-step_a-step_b.true in
    c.row_sum.ensures
    ∙ ap (word 32)
    (dot_ext a.a.now a.b.now a.len
    (λ k h. rw w.0 (row_place_lem {x = a.from_a} c.ranges.from_a.fits w.2 c.ranges.len.fits (omega arith) (rw w.0 at c.requires.in_a) k h))
    (λ k h. rw w.1 (row_place_lem {x = a.from_b} c.ranges.from_b.fits w.2 c.ranges.len.fits (omega arith) (rw w.1 at c.requires.in_b) k h)))
