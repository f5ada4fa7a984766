-- `put_numbered` meets its contract: it puts the text, the number's digits and the byte one after another, and there is room for all.
-- Assumes nothing.
use mathlib.Core.List.{◌++◌}
use native.Mathlib.Omega.{arith}
use Rattle.report.specs.Text.{decimal}
use Rattle.report.proofs.Written.{put_more, put_byte}
use Rattle.report.proofs.report.put_numbered.Goals as goal

pub returns : goal.returns
returns c =
    let x = c.args in
    let numbered = put_more x.out.now x.at x.text.now (decimal x.n) (omega arith) c.put_text-digits.ensures c.put_decimal-end.ensures in
    put_byte x.out.now x.at (x.text.now ++ decimal x.n) x.last (omega arith) (omega arith) numbered
