-- `copy_tile` meets its contract. The invariant: D's words are those that b turns leave. A turn copies column b, from its place in C to its place in D.
use Rattle.std.proofs.Common.{refl, ◌∙◌}
use Rattle.words.specs.Loops.{each}
use Rattle.words.proofs.Loops.{each_next}
use Rattle.copy.specs.Copied.{column_copied}
use Rattle.copy.proofs.copy.copy_tile.Goals as goal

pub loop-b-init : goal.loop-b-init
unfolding each
loop-b-init c = (refl, refl)

pub loop-b-preserved : goal.loop-b-preserved
loop-b-preserved c =
    let l = c.loop-b in
    let a = c.args in
    let r = c.copy_column in (
      r.auto.d ∙ l.invariant.0,
      each_next (column_copied a.c.now a.from a.rows.now a.cols.now a.to a.down.now a.across.now) l.b a.d.now l.invariant.1
          r.ensures,
    )
