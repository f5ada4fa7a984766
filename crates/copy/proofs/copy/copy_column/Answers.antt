-- `copy_column` meets its contract. The invariant: D's words are those that r turns leave. A turn reads and writes at the places of row r, which are inside.
use Rattle.std.proofs.Common.{get_or, refl, length-set}
use Rattle.words.specs.Loops.{each, put}
use Rattle.words.proofs.Loops.{each_next}
use Rattle.block.specs.Places.{place_of}
use Rattle.copy.proofs.copy.copy_column.Goals as goal

pub loop-r-init : goal.loop-r-init
unfolding each
loop-r-init c = (refl, refl)

pub loop-r-preserved : goal.loop-r-preserved
unfolding put
loop-r-preserved c =
    let a = c.args in
    let l = c.loop-r in (
      simp length-set l.invariant.0,
      each_next (λ r. put (λ was. get_or a.c.now (place_of a.from a.rows.now r) 0) (place_of a.to a.down.now r)) l.r a.d.now l.invariant.1 refl,
    )
