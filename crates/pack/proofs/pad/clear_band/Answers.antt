-- `clear_band` meets its contract. The invariant: the words of `out` are those with zeros stored in q lanes. A turn stores them in one more.
use Rattle.std.proofs.Common.{◌+◌, ◌*◌, refl, arith}
use Rattle.words.specs.Loops.{each}
use Rattle.words.specs.Fronts.{stored}
use Rattle.words.proofs.Loops.{each_next}
use Rattle.pack.proofs.Zeros.{zeros_stored}
use Rattle.pack.proofs.pad.clear_band.Goals as goal

pub loop-q-init : goal.loop-q-init
unfolding each
loop-q-init c = refl

pub loop-q-preserved : goal.loop-q-preserved
loop-q-preserved c =
    let s = c.args in
    let q = c.loop-q.q in
    each_next (λ q. stored s.n (λ r. 0) (s.to + s.width * q)) q s.out.now c.loop-q.invariant
    (zeros_stored s.n (s.to + s.width * q) c.loop-q.out (omega arith) (omega (arith, c.requires.each q c.loop-q-test.true)) (c.fill.ensures.after (λ y h. h)))
