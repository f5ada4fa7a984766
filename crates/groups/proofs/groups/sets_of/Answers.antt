-- `sets_of` meets its contract: by the laws of and, or and complement for one letter.
-- Assumes nothing.
use Prim.Native.Nat.{◌-◌, ◌^◌, ◌<◌}
use native.Mathlib.Omega.{arith}
use lib.Bits.{bit_and, bit_or, and_le_l, or_lt}
use Rattle.labels.proofs.Bits.{has_and, has_or, has_not}
use Rattle.groups.proofs.groups.sets_of.Goals as goal

pub returns : goal.returns
returns c =
    let a = c.args.a in
    let b = c.args.b in
    let d = c.args.d in
    let three = bit_and (bit_and a b) d in
    let two = bit_and (bit_and b d) ((2 ^ 64 - 1) - a) in
    let fits-three : three < 2 ^ 64 = omega (arith, c.ranges.a.fits, and_le_l (bit_and a b) d, and_le_l a b) in
    let fits-two : two < 2 ^ 64 = omega (arith, c.ranges.b.fits, and_le_l (bit_and b d) ((2 ^ 64 - 1) - a), and_le_l b d) in
    record {
      batch = λ k. rw (has_and, has_and);
      column = λ k. rw (has_and, has_and, has_not a k c.ranges.a.fits);
      row = λ k. rw (has_and d ((2 ^ 64 - 1) - bit_or three two) k, has_not (bit_or three two) k (or_lt 64 three two fits-three fits-two), has_or three two k);
      depth = λ k. has_not d k c.ranges.d.fits;
    }
