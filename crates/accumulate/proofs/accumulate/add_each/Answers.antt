-- `add_each` meets its contract. The invariant: D's words are those that k turns leave, by what the closure makes.
use Rattle.std.proofs.Common.{rules, ◌≡◌, ◌+◌, get_or, refl, arith, length-set}
use Rattle.words.specs.Loops.{each}
use Rattle.words.proofs.Store.{put_next}
use Rattle.accumulate.proofs.accumulate.add_each.Goals as goal

pub loop-k-init : goal.loop-k-init
unfolding each
loop-k-init g c = (refl, c.requires.callable, λ made m. refl)

pub loop-k-preserved : goal.loop-k-preserved
loop-k-preserved g c =
    let s = c.args in
    let l = c.loop-k in (
      simp length-set l.invariant.0,
      c.requires.callable,
      λ made m. put_next (λ j. made (get_or s.sums.now (s.r + j) 0)) (λ j. s.at + j) s.d.now l.k (l.invariant.2 made m) refl
          (m.is _ _ _ (search rules) (search rules) c.change.ensures),
    )

pub returns : goal.returns
returns g c = λ made m.
    let l = c.loop-k in
    let e : l.k ≡ c.args.n = omega arith in
    rw e at (l.invariant.2 made m)
