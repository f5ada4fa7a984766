-- `put_refused` meets its contract: it puts the word, the number's digits, of which there are at most 10, and a newline.
-- Assumes nothing.
use native.Mathlib.Omega.{arith}
use Rattle.report.specs.Text.{refused_text}
use Rattle.report.proofs.Written.{put_whole}
use Rattle.report.proofs.Decimal.{length_decimal32}
use Rattle.report.proofs.report.put_refused.Goals as goal

pub put_numbered-requires : goal.put_numbered-requires
put_numbered-requires c =
    rw c.from.ensures (omega (arith, length_decimal32 c.args.number c.ranges.number.fits))

pub returns : goal.returns
unfolding refused_text
returns c =
    let x = c.args in
    put_whole x.out.now (refused_text x.number) (rw c.from.ensures at c.put_numbered.ensures)
