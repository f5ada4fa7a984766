-- `put_word` meets its contract: it puts the word's digits, of which there are at most 10, and then the rest of the line.
-- Assumes nothing.
use mathlib.Core.List.{[], ◌∷◌}
use native.Mathlib.Omega.{arith}
use Rattle.report.specs.Text.{newline, space, decimal, word_line}
use Rattle.report.proofs.Written.{put_more}
use Rattle.report.proofs.Decimal.{length_decimal32}
use Rattle.report.proofs.report.put_word.Goals as goal

pub put_decimal-at-requires : goal.put_decimal-at-requires
put_decimal-at-requires c =
    rw c.from.ensures (omega (arith, length_decimal32 c.args.word c.ranges.word.fits))

pub put_text-requires : goal.put_text-requires
put_text-requires c =
    let put = rw c.from.ensures at c.put_decimal-at.ensures in
    omega (arith, put.0, length_decimal32 c.args.word c.ranges.word.fits)

pub returns : goal.returns
unfolding word_line
returns c =
    let s = c.args in
    put_more s.out.now s.at (decimal s.word) (space ∷ s.letter ∷ newline ∷ []) (omega arith)
    (rw c.from.ensures at c.put_decimal-at.ensures) c.put_text.ensures
