-- `pack` meets its contract. The invariant: the block's words are stored in the first d lanes, and the rest is as it was. A turn stores them in a band of lanes
-- more.
use Rattle.std.proofs.Common.{◌≡◌, ℕ, ◌+◌, ◌*◌, ◌≤◌, List, refl, ap, ◌∙◌, le_refl, le_trans, mul-add, arith}
use Rattle.words.specs.Loops.{each}
use Rattle.words.specs.Fronts.{stored}
use Rattle.words.proofs.Loops.{each_more}
use Rattle.words.proofs.Lanes.{lane_inside}
use Rattle.stretch.specs.StretchLanes.{lanes_stored, LanesRoom}
use Rattle.pack.proofs.pack.pack.Invariants.{word_at}
use Rattle.pack.proofs.pack.pack.Goals as goal

-- m lanes from lane d on are among the filled ones, which are inside
room : (width d : ℕ) {m filled out : ℕ} → d + m ≤ filled → width * filled ≤ out → LanesRoom m width width (width * d) out
room width d {m} {filled} h fits =
    record { each = λ q b. omega (arith, mul-add width d q, lane_inside width {d = d + q} {filled = filled} (omega arith) (le_refl filled) (le_refl (width * filled))) }

-- m lanes more
band_more : (width count d m : ℕ) (f : ℕ → ℕ → ℕ) (xs : List ℕ) {ys zs : List ℕ} {n : ℕ} → n ≡ d + m → ys ≡ lanes_stored d count width f 0 xs
    → zs ≡ lanes_stored m count width (λ q. f (d + q)) (width * d) ys → zs ≡ lanes_stored n count width f 0 xs
band_more width count d m f xs s e q =
    rw s
    (q ∙ ap (lanes_stored m count width (λ q. f (d + q)) (width * d)) e
    ∙ each_more d m (λ q. stored count (f q) (0 + width * q)) (λ q. stored count (f (d + q)) (width * d + width * q)) xs
    (λ k h u. ap (λ (x : ℕ). stored count (f (d + k)) x u) (omega (arith, mul-add width d k))))

pub loop-d-init : goal.loop-d-init
unfolding each
loop-d-init c = (omega arith, refl)

pub pack_band-requires : goal.pack_band-requires
pack_band-requires c =
    let l = c.loop-d in
    let fits : l.d + c.min.result ≤ c.args.filled = omega arith in
    record {
      few = le_trans c.requires.lane.fits c.requires.lane.narrow;
      fits = c.requires.lane.fits;
      measured = c.requires.measured;
      lanes = le_trans fits c.requires.lanes;
      reads = λ q b. c.requires.reads.each (l.d + q) (omega arith);
      any = omega arith;
      room = room c.args.width l.d fits (omega (arith, c.requires.room));
    }

pub loop-d-preserved : goal.loop-d-preserved
loop-d-preserved c =
    let a = c.args in
    let l = c.loop-d in (
      omega arith,
      band_more a.width a.block.now.count l.d c.min.result (word_at a.src.now a.starts.now a.block.now.offsets) a.out.now (omega arith) l.invariant.1 c.pack_band.ensures,
    )

pub returns : goal.returns
returns c = let z : c.loop-d.d ≡ c.args.filled = omega arith in rw z at c.loop-d.invariant.1

pub returns-2 : goal.returns-2
returns-2 c =
    let a = c.args in
    let l = c.loop-d in
    band_more a.width a.block.now.count l.d c.min.result (word_at a.src.now a.starts.now a.block.now.offsets) a.out.now (omega arith) l.invariant.1 c.pack_band.ensures
