-- `read_bytes` meets its contract. The loop's invariant: the first i places hold the first i numbers, and the rest is as it was.
-- Assumes nothing.
use Prim.Native.Nat.{◌+◌, ◌*◌}
use Rattle.words.proofs.Filled.{Filled}
use Rattle.little_endian.specs.Bytes.{little}
use Rattle.little_endian.proofs.numbers.read_bytes.Given as goal

abbrev pub invariant-loop-i : goal.invariant-loop-i
invariant-loop-i l = Filled (λ k. little l.file 1 (l.at + 1 * k)) l.initial.out l.out l.i
