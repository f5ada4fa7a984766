-- `words_record` meets its contract: each return has the answers to the questions that led there, and with them the record's reading comes to it.
-- Assumes nothing.
use Rattle.std.proofs.Common.{◌≡◌, ℕ, Bool, not, refl, sym, ap, ◌∙◌}
use borrow.Author.Tests.{leb-true, le-leb, lt-leb}
use lib.Dec.{eqb}
use Rattle.marks.specs.declared.marks.Kind.{Kind}
use Rattle.marks.specs.Marks.{word_width}
use Rattle.records.specs.Records.{width_at, count_at, words_record}
use Rattle.records.proofs.Reading.{yes, no, refused, passed_on, marked, unmarked, width_found, width_missing, wide_of, words_held}
use Rattle.tensor_records.proofs.tensor_records.words_record.Goals as goal

-- is the width that t has there not 0?
abbrev wide : ℕ → Kind → Bool
wide t k = not (eqb (word_width t k) 0)

pub returns-in_err-kind : goal.returns-in_err-kind
unfolding words_record
returns-in_err-kind c = no _ c.in_err-kind.ensures.1 (passed_on _ c.from_residual.ensures.1 c.in_err-kind.ensures.0)

pub returns-in_err-width : goal.returns-in_err-width
unfolding words_record
returns-in_err-width c =
    let t = c.args.letter in
    let missing = width_missing _ (word_width t c.in_ok-kind.kind) c.word_width.ensures c.in_err-width.ensures.value in
    unmarked _ (wide t) c.in_ok-kind.ensures _ missing.0 (passed_on _ c.from_residual-in_err-width.ensures.1 missing.1)

pub returns-in_err-need : goal.returns-in_err-need
unfolding words_record
returns-in_err-need c =
    let x = c.args in
    let t = x.letter in
    let found = width_found _ (word_width t c.in_ok-kind.kind) c.word_width.ensures c.in_ok-width.ensures.value in
    let width : width_at x.file.now t x.from.at ≡ c.in_ok-width.width = ap (word_width t) (sym c.in_ok-kind.ensures.1) ∙ found.0 in
    marked _ (wide t) c.in_ok-kind.ensures found.1 (no _ c.in_err-need.ensures.1 (passed_on _ c.from_residual-in_err-need.ensures.1 c.in_err-need.ensures.0))

pub returns-then-count-gt-JOB : goal.returns-then-count-gt-JOB
unfolding words_record
returns-then-count-gt-JOB c =
    let x = c.args in
    let t = x.letter in
    let found = width_found _ (word_width t c.in_ok-kind.kind) c.word_width.ensures c.in_ok-width.ensures.value in
    let width : width_at x.file.now t x.from.at ≡ c.in_ok-width.width = ap (word_width t) (sym c.in_ok-kind.ensures.1) ∙ found.0 in
    let count : count_at x.file.now x.from.at ≡ c.four_bytes-count.result = sym c.four_bytes-count.ensures in
    marked _ (wide t) c.in_ok-kind.ensures found.1
    (yes _ c.in_ok-need.ensures
    (rw (count, width) (no _ (lt-leb _ _ c.if-count-gt-JOB.true) refused)))

pub returns-in_err-need-2 : goal.returns-in_err-need-2
unfolding words_record
returns-in_err-need-2 c =
    let x = c.args in
    let t = x.letter in
    let found = width_found _ (word_width t c.in_ok-kind.kind) c.word_width.ensures c.in_ok-width.ensures.value in
    let width : width_at x.file.now t x.from.at ≡ c.in_ok-width.width = ap (word_width t) (sym c.in_ok-kind.ensures.1) ∙ found.0 in
    let count : count_at x.file.now x.from.at ≡ c.four_bytes-count.result = sym c.four_bytes-count.ensures in
    marked _ (wide t) c.in_ok-kind.ensures found.1
    (yes _ c.in_ok-need.ensures
    (rw (count, width)
    (yes _ (le-leb _ _ c.if-count-gt-JOB.false)
    (no _ c.in_err-need-2.ensures.1 (passed_on _ c.from_residual-in_err-need-2.ensures.1 c.in_err-need-2.ensures.0)))))

pub returns : goal.returns
unfolding words_record
returns c =
    let x = c.args in
    let t = x.letter in
    let found = width_found _ (word_width t c.in_ok-kind.kind) c.word_width.ensures c.in_ok-width.ensures.value in
    let width : width_at x.file.now t x.from.at ≡ c.in_ok-width.width = ap (word_width t) (sym c.in_ok-kind.ensures.1) ∙ found.0 in
    let count : count_at x.file.now x.from.at ≡ c.four_bytes-count.result = sym c.four_bytes-count.ensures in
    let whole = leb-true _ _ c.in_ok-need-2.ensures in
    marked _ (wide t) c.in_ok-kind.ensures found.1
    (yes _ c.in_ok-need.ensures
    (rw (count, width)
    (yes _ (le-leb _ _ c.if-count-gt-JOB.false)
    (yes _ c.in_ok-need-2.ensures
    (record { same = refl; sound = (words_held x.file.now x.from.at _ _ c.if-count-gt-JOB.false (wide_of t c.in_ok-kind.kind (sym found.0) found.2) whole, whole) })))))
