-- `put_decimal` meets its contract: the digits that the library spells are those of `decimal`, and `put_text` puts them.
-- Assumes nothing.
use Rattle.report.proofs.Decimal.{spelled_decimal}
use Rattle.report.proofs.report.put_decimal.Goals as goal

pub put_text-requires : goal.put_text-requires
put_text-requires c =
    let d = c.decimal-k in
    rw (spelled_decimal c.args.n d.new.out c.ranges.n.fits d.ensures.len d.ensures.digits) c.requires

pub returns : goal.returns
returns c =
    let d = c.decimal-k in
    rw (spelled_decimal c.args.n d.new.out c.ranges.n.fits d.ensures.len d.ensures.digits) at c.put_text.ensures
