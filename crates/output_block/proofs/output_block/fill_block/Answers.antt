-- `fill_block` meets its contract: each sum is that of its output modulo 2^32, and so the stored run is the filled one.
-- Assumes nothing.
use Rattle.std.proofs.Common.{is_some}
use Rattle.output_words.specs.StartWords.{words_of}
use Rattle.sums.specs.Walk.{over}
use Rattle.output_block.proofs.StoredSums.{stored_run}
use Rattle.output_block.proofs.output_block.fill_block.Goals as goal

pub returns : goal.returns
returns c =
    let x = c.args.x.now in
    let block = c.args.block in
    stored_run (is_some x.c) x.alpha x.beta (over c.args.depth.now.walk) x.a.now x.b.now (words_of x.c) block.from block.step c.args.d.now
    c.block_sums-sums.ensures c.store_run.ensures
