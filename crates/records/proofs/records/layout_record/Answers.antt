-- `layout_record` meets its contract: each return has the answers to the questions that led there, and with them the record's reading comes to it.
-- Assumes nothing.
use Rattle.std.proofs.Common.{◌≡◌, ◌+◌, refl, sym, ◌∙◌}
use borrow.Author.Tests.{leb-true, le-leb, lt-leb}
use Rattle.little_endian.proofs.Little.{little_byte}
use Rattle.marks.specs.Marks.{is_layout}
use Rattle.records.specs.Records.{rank_at, layout_record}
use Rattle.records.proofs.Reading.{yes, no, refused, passed_on, marked, unmarked, layout_held}
use Rattle.records.proofs.records.layout_record.Goals as goal

pub returns-in_err-kind : goal.returns-in_err-kind
unfolding layout_record
returns-in_err-kind c = no _ c.in_err-kind.ensures.1 (passed_on _ c.from_residual.ensures.1 c.in_err-kind.ensures.0)

pub returns-then-not-is_layout : goal.returns-then-not-is_layout
unfolding layout_record
returns-then-not-is_layout c = unmarked _ (is_layout c.args.letter) c.in_ok-kind.ensures _ c.if-not-is_layout.ensures refused

pub returns-in_err-need : goal.returns-in_err-need
unfolding layout_record
returns-in_err-need c =
    marked _ (is_layout c.args.letter) c.in_ok-kind.ensures c.if-not-is_layout.ensures
    (no _ c.in_err-need.ensures.1 (passed_on _ c.from_residual-in_err-need.ensures.1 c.in_err-need.ensures.0))

pub returns-then-rank-gt-RANK : goal.returns-then-rank-gt-RANK
unfolding layout_record
returns-then-rank-gt-RANK c =
    let x = c.args in
    let rank : rank_at x.file.now x.from.at ≡ c.from-rank.result = little_byte x.file.now (x.from.at + 2) ∙ sym c.from-rank.ensures in
    marked _ (is_layout c.args.letter) c.in_ok-kind.ensures c.if-not-is_layout.ensures
    (yes _ c.in_ok-need.ensures
    (rw rank (no _ (lt-leb _ _ c.if-rank-gt-RANK.true) refused)))

pub returns-in_err-need-2 : goal.returns-in_err-need-2
unfolding layout_record
returns-in_err-need-2 c =
    let x = c.args in
    let rank : rank_at x.file.now x.from.at ≡ c.from-rank.result = little_byte x.file.now (x.from.at + 2) ∙ sym c.from-rank.ensures in
    marked _ (is_layout c.args.letter) c.in_ok-kind.ensures c.if-not-is_layout.ensures
    (yes _ c.in_ok-need.ensures
    (rw rank
    (yes _ (le-leb _ _ c.if-rank-gt-RANK.false)
    (no _ c.in_err-need-2.ensures.1 (passed_on _ c.from_residual-in_err-need-2.ensures.1 c.in_err-need-2.ensures.0)))))

pub returns : goal.returns
unfolding layout_record
returns c =
    let x = c.args in
    let rank : rank_at x.file.now x.from.at ≡ c.from-rank.result = little_byte x.file.now (x.from.at + 2) ∙ sym c.from-rank.ensures in
    let whole = leb-true _ _ c.in_ok-need-2.ensures in
    marked _ (is_layout c.args.letter) c.in_ok-kind.ensures c.if-not-is_layout.ensures
    (yes _ c.in_ok-need.ensures
    (rw rank
    (yes _ (le-leb _ _ c.if-rank-gt-RANK.false)
    (yes _ c.in_ok-need-2.ensures
    (record { same = refl; sound = (layout_held x.file.now x.from.at _ c.if-rank-gt-RANK.false whole, whole) })))))
