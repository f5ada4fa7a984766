-- `add_run` meets its contract: a tensor that does not go along the outputs is at the same places for each of them, and a product is the same with its factors
-- exchanged.
-- Assumes nothing.
use Rattle.std.proofs.Common.{◌≡◌, ℕ, List, get_or, refl, ◌∙◌, mul_comm, arith}
use Rattle.words.specs.Loops.{Within}
use Rattle.words.specs.Stepped.{stepped}
use Rattle.words.proofs.Sums.{sum_to_ext}
use Rattle.dots.specs.Dot.{dot}
use Rattle.dots.proofs.Products.{dot_ext}
use Rattle.side_sums.specs.SideSums.{side_run, Added}
use Rattle.side_sums.proofs.side.add_run.Goals as goal

-- a tensor that stands still
still : (x s r v : ℕ) {t : ℕ} → t ≡ 0 → side_run x t s r v ≡ stepped x s v
still x s r v e = rw e (omega arith)

still_inside : (x s r : ℕ) {t len size : ℕ} → t ≡ 0 → Within len (side_run x t s r) size → Within len (stepped x s) size
still_inside x s r e w = record { each = λ v h. rw (← still x s r v e) (w.each v h) }

added_same : {n : ℕ} {f g : ℕ → ℕ} {old new : List ℕ} → Added n f old new → ((r : ℕ) → f r ≡ g r) → Added n g old new
added_same a same = record { len = a.len; each = λ r h. omega (arith, a.each r h, same r) }

-- the factors exchanged
dot_turned : (a b : List ℕ) (n : ℕ) (f g : ℕ → ℕ) → dot n g b f a ≡ dot n f a g b
unfolding dot
dot_turned a b n f g = sum_to_ext n (λ k h. mul_comm (get_or b (g k) 0) (get_or a (f k) 0))

pub add_still-requires : goal.add_still-requires
add_still-requires c =
    let x = c.args in
    let w = c.requires.3 in (
      c.requires.0,
      c.requires.1,
      c.requires.2,
      record { each = λ r h. record { in_a = (w.each r h).in_a; in_b = still_inside x.b.now.from x.b.now.step r c.if-b-eq0.true (w.each r h).in_b } },
    )

pub add_still-requires-then-a-eq0 : goal.add_still-requires-then-a-eq0
add_still-requires-then-a-eq0 c =
    let x = c.args in
    let w = c.requires.3 in (
      c.requires.0,
      c.requires.1,
      c.requires.2,
      record { each = λ r h. record { in_a = (w.each r h).in_b; in_b = still_inside x.a.now.from x.a.now.step r c.if-a-eq0.true (w.each r h).in_a } },
    )

pub returns-then-b-eq0 : goal.returns-then-b-eq0
returns-then-b-eq0 c =
    let x = c.args in
    added_same c.add_still.ensures
    (λ r. dot_ext x.a.now.words.now x.b.now.words.now x.len (λ v h. refl) (λ v h. rw (still x.b.now.from x.b.now.step r v c.if-b-eq0.true)))

pub returns-then-a-eq0 : goal.returns-then-a-eq0
returns-then-a-eq0 c =
    let x = c.args in
    added_same c.add_still-then-a-eq0.ensures
    (λ r. dot_turned x.a.now.words.now x.b.now.words.now x.len (stepped x.a.now.from x.a.now.step) (side_run x.b.now.from x.b.now.along x.b.now.step r)
    ∙ dot_ext x.a.now.words.now x.b.now.words.now x.len (λ v h. rw (still x.a.now.from x.a.now.step r v c.if-a-eq0.true)) (λ v h. refl))
