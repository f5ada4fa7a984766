-- `letter_rows` meets its contract. The invariant: the words are those that the letters of the first i row counts leave, each put where the code's sum
-- of address words says, which is the plan's place.
-- Assumes nothing.
use Rattle.std.proofs.Common.{refl, ◌∙◌, arith, length-set}
use Rattle.groups.specs.Groups.{batch, row as rowGroup, column}
use Rattle.tiles.specs.Grid.{cut_in}
use Rattle.letters.proofs.LetterLoops.{turns_none, turns_next, turns_all, grid_sizes, plan_place, code_place, row_next, rows_lettered}
use Rattle.letters.proofs.letters.letter_rows.Goals as goal

pub offset_in-at_column-requires : goal.offset_in-at_column-requires
offset_in-at_column-requires c = let q = c.requires in (q.0.few column, omega (arith, q.3, (grid_sizes q.0).2))

pub at_batch-requires : goal.at_batch-requires
at_batch-requires c = let q = c.requires in (q.0.few batch, omega (arith, q.2, (grid_sizes q.0).0))

pub loop-i-init : goal.loop-i-init
loop-i-init c = turns_none _ _

pub offset_in-requires : goal.offset_in-requires
offset_in-requires c = let q = c.requires in (q.0.few rowGroup, omega (arith, (grid_sizes q.0).1))

pub bounds-out-at : goal.bounds-out-at
bounds-out-at c =
    let q = c.requires in
    let b = q.1.inside _ c.loop-i.i _ q.2 (omega arith) q.3 in
    let e = code_place _ _ c.loop-i.i c.offset_in.ensures refl
    ∙ plan_place c.args.p.now c.args.h c.args.j c.offset_in-at_column.ensures c.at_batch.ensures refl c.loop-i.i in
    rw (e, c.loop-i.invariant.kept) b

pub loop-i-preserved : goal.loop-i-preserved
loop-i-preserved c =
    let place = code_place _ _ c.loop-i.i c.offset_in.ensures refl in
    turns_next c.loop-i.invariant (simp length-set) (row_next _ _ _ _ _ _ c.loop-i.i _ place c.letter_of.ensures c.state.ensures)

pub returns : goal.returns
returns c =
    let x = c.args in
    turns_all c.loop-i.invariant (omega arith)
    ∙ rows_lettered x.p.now (cut_in x.g) x.t x.h x.j _
    (plan_place x.p.now x.h x.j c.offset_in-at_column.ensures c.at_batch.ensures refl) _
