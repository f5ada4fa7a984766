-- `two_bytes` meets its contract: the library's sum over the bytes is that of `little`.
-- Assumes nothing.
use native.Mathlib.Omega.{arith}
use Rattle.little_endian.proofs.Little.{little_two}
use Rattle.little_endian.proofs.numbers.two_bytes.Goals as goal

pub returns : goal.returns
returns c = let a = c.args in omega (arith, c.from_le_bytes.ensures, little_two a.file.now a.at)
