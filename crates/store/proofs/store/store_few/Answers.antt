-- `store_few` meets its contract. The invariant: D's words are those that r rows leave.
use Rattle.std.proofs.Common.{get_or, refl, ◌∙◌}
use Rattle.words.specs.Loops.{each, put}
use Rattle.words.proofs.Loops.{each_next}
use Rattle.block.specs.Places.{place_of}
use Rattle.accumulate.specs.Added.{added_to}
use Rattle.store.proofs.store.store_few.Goals as goal

pub loop-r-init : goal.loop-r-init
unfolding each
loop-r-init c = (refl, refl)

pub loop-r-preserved : goal.loop-r-preserved
loop-r-preserved c =
    let a = c.args in
    let l = c.loop-r in (
      c.add_row.auto.d ∙ l.invariant.0,
      each_next (λ k. put (added_to a.f (get_or a.sums.now k 0)) (place_of a.from a.offsets.now k)) l.r a.d.now l.invariant.1 c.add_row.ensures,
    )
