-- `pack_band` meets its contract. The invariant: the words of `out` are those with the first r places of the block stored in each lane. A turn stores the stretch
-- from place r on in all of them, whose places are those of the block. The measure is how many places are left.
use Rattle.std.proofs.Common.{◌≡◌, ℕ, ◌+◌, get_or, refl, sym, ap, ◌∙◌, arith}
use Rattle.words.specs.Words.{word}
use Rattle.words.specs.Stepped.{stepped}
use Rattle.block.specs.Places.{place_of}
use Rattle.block.proofs.Stretches.{Stretch, stretch_of, within_stretch}
use Rattle.stretch.specs.StretchLanes.{lanes_stored}
use Rattle.stretch.proofs.StretchLanes.{lanes_more, lanes_none}
use Rattle.pack.proofs.pack.pack_band.Goals.{After-from}
use Rattle.pack.proofs.pack.pack_band.Goals as goal

-- the stretch from place r on, where the block begins at `from`
here : (c : After-from) (from : ℕ) → Stretch from c.args.block.now.offsets c.args.block.now.count c.loop-r.r (place_of from c.args.block.now.offsets c.loop-r.r) c.step_at.result c.from.result
here c from =
    let b = c.args.block.now in
    stretch_of from b.offsets b.count c.loop-r.r c.requires.few c.loop-r-test.true refl c.step_at.ensures c.requires.measured c.from.ensures

pub loop-r-init : goal.loop-r-init
loop-r-init c =
    let s = c.args in
    let v : ℕ → ℕ → ℕ = λ q r. get_or s.lanes.src.now (place_of (get_or s.lanes.starts.now (s.lanes.first + q) 0) s.block.now.offsets r) 0 in
    (omega arith, sym (lanes_none s.lanes.width s.lanes.count v s.to s.out.now))

pub pack_stretch-requires : goal.pack_stretch-requires
pack_stretch-requires c =
    let t : (from : ℕ) → Stretch from c.args.block.now.offsets c.args.block.now.count c.loop-r.r (place_of from c.args.block.now.offsets c.loop-r.r) c.step_at.result c.from.result
    = here (goal.at.pack_stretch-requires c).After-from in
    let s = c.args.lanes in
    record {
      some = (t 0).some;
      few = omega (arith, (t 0).fits, c.requires.few);
      fits = omega (arith, (t 0).fits, c.requires.fits);
      any = c.requires.any;
      lanes = c.requires.lanes;
      reads = λ q b. within_stretch (t (get_or s.starts.now (s.first + q) 0)) (c.requires.reads q b);
      room = record { each = λ q b. omega (arith, (t 0).fits, c.requires.fits, c.requires.room.each q b) };
    }

pub loop-r-smaller : goal.loop-r-smaller
loop-r-smaller c =
    let t = here (goal.at.loop-r-smaller c).After-from 0 in
    omega (arith, t.some, t.fits)

pub loop-r-preserved : goal.loop-r-preserved
loop-r-preserved c =
    let t : (from : ℕ) → Stretch from c.args.block.now.offsets c.args.block.now.count c.loop-r.r (place_of from c.args.block.now.offsets c.loop-r.r) c.step_at.result c.from.result
    = here (goal.at.loop-r-preserved c).After-from in
    let l = c.loop-r in
    let s = c.args.lanes in
    let o = c.args.block.now.offsets in
    let n = c.from.result in
    let v : ℕ → ℕ → ℕ = λ q r. get_or s.src.now (place_of (get_or s.starts.now (s.first + q) 0) o r) 0 in
    let w : ℕ → ℕ → ℕ = λ q k. get_or s.src.now (stepped (word 64 (get_or s.starts.now (s.first + q) 0 + get_or o l.r 0)) c.step_at.result k) 0 in (
      (t 0).fits,
      c.pack_stretch.ensures ∙ ap (lanes_stored s.count n s.width w (c.args.to + l.r)) l.invariant.1
          ∙ lanes_more s.width s.count l.r n v w c.args.to c.args.out.now (omega (arith, (t 0).fits, c.requires.fits))
          (λ q k b a. ap (λ (p : ℕ). get_or s.src.now p 0) ((t (get_or s.starts.now (s.first + q) 0)).place k a)),
    )

pub returns : goal.returns
returns c = let z : c.loop-r.r ≡ c.args.block.now.count = omega arith in rw z at c.loop-r.invariant.1
