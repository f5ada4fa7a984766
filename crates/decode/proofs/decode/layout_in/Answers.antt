-- `layout_in` meets its contract: all that is read lies in the file, and the fronts of the two arrays hold the extents and the strides that were read.
-- Assumes nothing.
use lib.IntN.{pos}
use Rattle.words.proofs.Lent.{CameBack, came_back}
use Rattle.limits.specs.Limits.{rank_limit}
use Rattle.decode.proofs.Decoded.{layout_made}
use Rattle.decode.proofs.decode.layout_in.Goals as goal

pub returns : goal.returns
returns c =
    let few = c.requires.few in
    -- the extents and the strides that were read
    let extents : CameBack c.args.part.rank rank_limit 0 c.read_words.new.out = came_back few c.read_words.auto.out in
    let strides : CameBack c.args.part.rank rank_limit (pos 0) c.read_signed.new.out = came_back few c.read_signed.auto.out in
    layout_made c.args.file.now c.args.part c.requires extents c.read_words.ensures strides c.read_signed.ensures c.four_bytes-base.ensures c.new.ensures
