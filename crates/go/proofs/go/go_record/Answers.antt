-- `go_record` meets its contract: each return has the answers to the questions that led there, and with them the record's reading comes to it.
-- Assumes nothing.
use mathlib.Core.Path.{ap}
use Prim.Native.Nat.{◌+◌}
use borrow.Author.Tests.{leb-true}
use Rattle.marks.specs.Marks.{is_go}
use Rattle.records.specs.Records.{got}
use Rattle.records.proofs.Reading.{yes, no, refused, passed_on, marked, unmarked}
use Rattle.go.specs.Record.{go_record}
use Rattle.go.proofs.go.go_record.Goals as goal

pub returns-in_err-kind : goal.returns-in_err-kind
unfolding go_record
returns-in_err-kind c = no _ c.in_err-kind.ensures.1 (passed_on _ c.from_residual.ensures.1 c.in_err-kind.ensures.0)

pub returns-then-not-is_go : goal.returns-then-not-is_go
unfolding go_record
returns-then-not-is_go c = unmarked _ is_go c.in_ok-kind.ensures _ c.if-not-is_go.ensures refused

pub returns-in_err-need : goal.returns-in_err-need
unfolding go_record
returns-in_err-need c =
    marked _ is_go c.in_ok-kind.ensures c.if-not-is_go.ensures
    (no _ c.in_err-need.ensures.1 (passed_on _ c.from_residual-in_err-need.ensures.1 c.in_err-need.ensures.0))

pub returns : goal.returns
unfolding go_record
returns c =
    marked _ is_go c.in_ok-kind.ensures c.if-not-is_go.ensures
    (yes _ c.in_ok-need.ensures
    (record { same = ap (λ go. got go (c.args.from.at + 24)) c.go_at.ensures; sound = (tt, leb-true _ _ c.in_ok-need.ensures) }))
