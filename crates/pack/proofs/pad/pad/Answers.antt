-- `pad` meets its contract: what is in use of the first lanes is already what it is to be, zeros up to their ends complete them, and zeros in the lanes behind
-- complete the block.
-- Assumes nothing.
use Rattle.std.proofs.Common.{◌*◌, ◌-◌, refl, arith, mul-le-mul_left}
use Rattle.pack.proofs.Packing.{packed_own}
use Rattle.pack.proofs.Zeros.{zeros_stored}
use Rattle.pack.proofs.pad.pad.Goals as goal

pub returns : goal.returns
returns c =
    let s = c.args in
    packed_own s.width s.count s.filled s.depth s.out.now c.requires.0 c.requires.1 c.requires.2 c.clear_band.ensures
    (zeros_stored (s.width * s.depth - s.width * s.filled) (s.width * s.filled) c.clear_band.new.out refl
    (omega (arith, mul-le-mul_left s.width c.requires.1)) (c.fill.ensures.after (λ y h. h)))
