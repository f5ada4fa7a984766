-- `put_report` meets its contract: the line of the tiles takes at most 64 bytes, and the words' lines are put after it.
-- Assumes nothing.
use Prim.Native.Nat.{zero-le}
use native.Mathlib.Omega.{arith}
use lib.ListN.{length}
use Rattle.report.specs.Text.{tiles_line, word_lines, report_text}
use Rattle.report.proofs.Written.{put_more, put_whole, put_start}
use Rattle.report.proofs.Decimal.{length_tiles}
use Rattle.report.proofs.report.put_report.Goals as goal

pub put_words-requires : goal.put_words-requires
put_words-requires c =
    (c.requires.0, omega (arith, length_tiles c.args.t c.args.total c.ranges.t.fits c.ranges.total.fits))

pub returns : goal.returns
unfolding report_text
returns c =
    let s = c.args in
    let out = s.out.now in
    let line = tiles_line s.t s.total in
    let lines = word_lines s.words.now s.letters.now (length s.words.now) in
    put_whole out (report_text s.t s.total s.words.now s.letters.now)
    (put_more out 0 line lines zero-le (put_start out line c.put_tiles-at.ensures) c.put_words.ensures)
