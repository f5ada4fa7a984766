-- `read_signed` meets its contract. The loop's invariant: the first i places hold the first i numbers, and the rest is as it was.
-- Assumes nothing.
use Prim.Native.Nat.{◌+◌, ◌*◌}
use Rattle.words.specs.Words.{signed}
use Rattle.words.proofs.Filled.{Filled}
use Rattle.little_endian.specs.Bytes.{little}
use Rattle.little_endian.proofs.numbers.read_signed.Given as goal

abbrev pub invariant-loop-i : goal.invariant-loop-i
invariant-loop-i l = Filled (λ k. signed 32 (little l.file 4 (l.at + 4 * k))) l.initial.out l.out l.i
