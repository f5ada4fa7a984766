-- `c_records` meets its contract: where C's layout begins here, it is what its records read as; else nothing is read.
-- Assumes nothing.
use mathlib.Core.Path.{refl, sym, ◌∙◌}
use Rattle.std.proofs.Common.{rules}
use Rattle.records.proofs.Reading.{goes_on, stops, passed_on}
use Rattle.jobfile.specs.JobParts.{c_at}
use Rattle.jobfile.proofs.reader.c_records.Goals as goal

pub returns-then-not-layout_begins : goal.returns-then-not-layout_begins
unfolding c_at
returns-then-not-layout_begins c =
    rw (sym c.layout_begins.ensures ∙ c.if-not-layout_begins.true) (record { same = refl; sound = (tt, c.requires) })

pub returns-in_err-c : goal.returns-in_err-c
unfolding c_at
returns-in_err-c c =
    rw (sym c.layout_begins.ensures ∙ c.if-not-layout_begins.false)
    (stops _ _ c.in_err-c.ensures (passed_on _ c.from_residual.ensures.1 refl))

pub returns : goal.returns
unfolding c_at
returns c =
    let read = c.in_ok-c.ensures in
    rw (sym c.layout_begins.ensures ∙ c.if-not-layout_begins.false) (goes_on _ _ read (record { same = refl; sound = (search (rules, read.sound.0), read.sound.1) }))
