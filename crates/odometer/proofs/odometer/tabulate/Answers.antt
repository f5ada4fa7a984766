-- `tabulate` meets its contract: the rows are those of the labels behind the first one.
-- Assumes nothing.
use Rattle.std.proofs.Common.{◌≡◌, ◌-◌, ◌<◌, ◌≤◌, List, [], ◌∷◌, map, length, take, drop, refl, arith, length-drop}
use Rattle.std.proofs.Math.Seq.{take-length}
use Rattle.std.proofs.lemmas.List.{drop-map, length-map}
use Rattle.limits.specs.Limits.{labels_limit}
use Rattle.groups.specs.declared.groups.Dim.{Dim}
use Rattle.groups.specs.Groups.{Label}
use Rattle.groups.specs.Held.{as_label}
use Rattle.odometer.specs.declared.odometer.Row.{Row}
use Rattle.odometer.specs.Odometer.{Tabled, Rows}
use Rattle.odometer.proofs.odometer.tabulate.Goals as goal

no_rows : (g : List Label) (xs : List Dim) → g ≡ map as_label xs → length xs < 1 → Rows g []
no_rows g [] e h = rw e (record { few = omega arith; tabled = record { rows = refl; last = λ i l. absurd (omega arith); moves = λ i l. absurd (omega arith) } })
no_rows g (x ∷ xs) e h = absurd (omega arith)

rows_behind : (g : List Label) (xs : List Dim) {rows : List Row} → g ≡ map as_label xs → length xs ≤ labels_limit
    → Tabled (map as_label (take (length xs - 1) (drop 1 xs))) rows → Rows g rows
rows_behind g xs {rows} e h t =
    let behind = rw (← length-drop 1 xs, take-length (drop 1 xs)) at t in
    record { few = omega (arith, behind.rows, length-map (drop 1 xs) as_label, length-drop 1 xs); tabled = rw (e, drop-map as_label 1 xs) behind }

pub returns-in-empty : goal.returns-in-empty
returns-in-empty c = no_rows _ _ c.labels.ensures.1 (omega arith)

pub returns-in-len1-up : goal.returns-in-len1-up
returns-in-len1-up c = rows_behind _ c.labels.result.now c.labels.ensures.1 (omega arith) c.set_rows.ensures
