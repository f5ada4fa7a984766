-- `pack_by_two` meets its contract. The invariant: a place is left, `at` is k steps from the first, and the words of `out` are those with k words of the stretch
-- stored in each lane. A turn stores two more, or the last one.
use Rattle.std.proofs.Common.{◌≡◌, ℕ, ◌+◌, ◌≤◌, List, get_or, sym, ap, ◌∙◌, arith}
use Rattle.words.specs.Words.{word}
use Rattle.words.specs.Stepped.{stepped}
use Rattle.words.proofs.Modular.{step_none, steps_add}
use Rattle.stretch.specs.declared.stretch.Lanes.{Lanes}
use Rattle.stretch.specs.declared.stretch.Stretch.{Stretch}
use Rattle.stretch.specs.StretchLanes.{lanes_stored, stretch_stored}
use Rattle.stretch.proofs.StretchLanes.{lanes_more, lanes_none}
use Rattle.stretch.proofs.stretch.pack_by_two.Goals as goal

-- two steps at a time
two_steps : (x s k : ℕ) {at : ℕ} → at ≡ stepped x s k → word 64 (at + word 64 (s + s)) ≡ stepped x s (k + 2)
two_steps x s k e = omega arith

-- the words of a stretch, the first k of which are stored, and n after them
more : (b : Lanes) (s : Stretch) (k n to : ℕ) {at m : ℕ} (xs : List ℕ) {out after : List ℕ} → k + n ≤ b.width → at ≡ stepped s.offset s.step k → m ≡ k + n
    → out ≡ stretch_stored b (record s { len = k }) to xs → after ≡ stretch_stored b (record { offset = at; step = s.step; len = n }) (to + k) out
    → after ≡ stretch_stored b (record s { len = m }) to xs
more b s k n to {at} {m} xs {out} {after} fits e sum p q =
    let v : ℕ → ℕ → ℕ → ℕ = λ x q j. get_or b.src.now (stepped (word 64 (get_or b.starts.now (b.first + q) 0 + x)) s.step j) 0 in
    rw sum
    (q ∙ ap (lanes_stored b.count n b.width (v at) (to + k)) p
    ∙ lanes_more b.width b.count k n (v s.offset) (v at) to xs fits
    (λ q j h i. rw e (ap (λ (p : ℕ). get_or b.src.now p 0) (steps_add (get_or b.starts.now (b.first + q) 0) s.offset s.step k j))))

pub loop-k-init : goal.loop-k-init
loop-k-init c =
    let b = c.args.lanes in
    let s = c.args.s in
    let v : ℕ → ℕ → ℕ = λ q k. get_or b.src.now (stepped (word 64 (get_or b.starts.now (b.first + q) 0 + s.offset)) s.step k) 0 in
    record {
      left = omega (arith, c.requires.some);
      at = step_none {x = s.offset} s.step (omega arith);
      out = sym (lanes_none b.width b.count v c.args.to c.args.out.now);
    }

pub pack_lanes-requires : goal.pack_lanes-requires
pack_lanes-requires c =
    let b = c.args.lanes in
    let s = c.args.s in
    let l = c.loop-k in
    let w = c.min.ensures in
    record {
      some = omega arith;
      few = omega arith;
      fits = omega (arith, c.requires.fits);
      any = c.requires.any;
      lanes = c.requires.lanes;
      reads = λ q h. record { each = λ j i. rw (l.invariant.at, steps_add (get_or b.starts.now (b.first + q) 0) s.offset s.step l.k j) ((c.requires.reads q h).each (l.k + j) (omega arith)) };
      room = record { each = λ q h. omega (arith, c.requires.room.each q h) };
    }

pub loop-k-preserved : goal.loop-k-preserved
loop-k-preserved c =
    let b = c.args.lanes in
    let s = c.args.s in
    let l = c.loop-k in
    record {
      left = omega arith;
      at = two_steps s.offset s.step l.k l.invariant.at;
      out = more b s l.k c.min.result c.args.to c.args.out.now (omega (arith, c.requires.fits)) l.invariant.at (omega arith) l.invariant.out c.pack_lanes.ensures;
    }

pub returns : goal.returns
returns c = absurd (omega arith)

pub returns-2 : goal.returns-2
returns-2 c =
    let l = c.loop-k in
    more c.args.lanes c.args.s l.k c.min.result c.args.to c.args.out.now (omega (arith, c.requires.fits)) l.invariant.at (omega arith) l.invariant.out c.pack_lanes.ensures
