-- `pack_lanes` meets its contract. The invariant: the words of `out` are those with the stretch's words stored in q lanes. A turn stores them in one more.
use Rattle.std.proofs.Common.{◌≡◌, ℕ, ◌+◌, ◌*◌, get_or, refl, arith}
use Rattle.words.specs.Words.{word}
use Rattle.words.specs.Loops.{each}
use Rattle.words.specs.Fronts.{stored}
use Rattle.words.specs.Stepped.{stepped}
use Rattle.words.proofs.Loops.{each_next}
use Rattle.stretch.proofs.stretch.pack_lanes.Goals as goal

pub loop-q-init : goal.loop-q-init
unfolding each
loop-q-init c = refl

pub loop-q-preserved : goal.loop-q-preserved
loop-q-preserved c =
    let b = c.args.lanes in
    let s = c.args.s in
    let v : ℕ → ℕ → ℕ = λ q k. get_or b.src.now (stepped (word 64 (get_or b.starts.now (b.first + q) 0 + s.offset)) s.step k) 0 in
    each_next (λ q. stored s.len (v q) (c.args.to + b.width * q)) c.loop-q.q c.args.out.now c.loop-q.invariant c.pack_words.ensures

pub returns : goal.returns
returns c = let z : c.loop-q.q ≡ c.args.lanes.count = omega arith in rw z at c.loop-q.invariant
