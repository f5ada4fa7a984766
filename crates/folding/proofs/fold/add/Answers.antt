-- `add` meets its contract: where the label continues the last one it is joined to it, else it goes behind.
-- Assumes nothing.
use Rattle.std.proofs.Common.{sym, ◌∙◌, arith}
use Rattle.folding.proofs.LabelAdded.{small_last, joined_fits, replaced, added_behind}
use Rattle.folding.proofs.fold.add.Goals as goal
use Rattle.folding.proofs.fold.add.Goals.{else-n-gt0-via-then-n-gt0+else-continues, else-n-gt0-via-else-n-gt0}

pub continues-requires : goal.continues-requires
continues-requires c = small_last c.args.out.now c.if-n-gt0.true c.requires.1

pub joined-requires : goal.joined-requires
joined-requires c = joined_fits c.args.out.now c.if-n-gt0.true c.args.l c.requires.2 (sym c.continues.ensures ∙ c.if-continues.true)

pub returns-then-continues : goal.returns-then-continues
returns-then-continues c =
    (replaced c.args.out.now c.if-n-gt0.true c.args.l c.joined.result (omega arith) (sym c.continues.ensures ∙ c.if-continues.true) c.joined.ensures, omega arith)

pub returns-else-n-gt0 : goal.returns-else-n-gt0
returns-else-n-gt0 c =
    elim c.else-n-gt0.branch [
      | else-n-gt0-via-then-n-gt0+else-continues w ↦ (added_behind c.args.out.now c.args.l (omega arith) (λ h. sym w.continues.ensures ∙ w.if-continues.false), omega arith)
      | else-n-gt0-via-else-n-gt0 w ↦ (added_behind c.args.out.now c.args.l (omega arith) (λ h. absurd (omega arith)), omega arith)
    ]
