-- `advance` meets its contract: where a label goes up, its row has what each tensor moves; and one does, where there is a next count.
-- Assumes nothing.
use Rattle.std.proofs.Common.{◌≡◌, ℕ, ◌+◌, ◌<◌, ◌≤◌, List, length, get_or, add-one, arith}
use Rattle.contraction.specs.declared.contraction.Operand.{Operand}
use Rattle.groups.specs.Groups.{Label, size}
use Rattle.offsets.specs.declared.offsets.Offsets.{Offsets}
use Rattle.offsets.specs.Offsets.{words_in, Words}
use Rattle.odometer.specs.declared.odometer.Row.{Row}
use Rattle.odometer.specs.Carried.{carried}
use Rattle.odometer.specs.Odometer.{last_in, move_in, Tabled, Stands, Turned, Advanced}
use Rattle.odometer.proofs.NextCount.{Next, turned_next}
use Rattle.odometer.proofs.odometer.advance.Goals as goal

module _ (i : ℕ) (rows : List Row) (old new : List ℕ) (t : Turned (length rows) (last_in rows) (λ k. get_or old k 0) (λ k. get_or new k 0) i) where
  next : (g : List Label) (n : ℕ) {x : Operand → ℕ} {at : Offsets} → n + 1 < size g → Tabled g rows → Stands g x n old at → Next g n i (λ k. get_or new k 0)
  next g n h tab s = turned_next g n i (last_in rows) (λ k. get_or old k 0) (λ k. get_or new k 0) h tab.last s.digits (rw tab.rows at t)

  -- the label at place i goes up
  moved : {at to : Offsets} → Words to (λ o. words_in at o + move_in rows i o) → Advanced rows old new at to
  moved {at} {to} plus = record { next = λ g x n h tab s. record { digits = (next g n h tab s).digits; words = words g x n h tab s } }
    where
      words : (g : List Label) (x : Operand → ℕ) (n : ℕ) → n + 1 < size g → Tabled g rows → Stands g x n old at → (o : Operand) → words_in to o ≡ carried o (x o) g (n + 1)
      words g x n h tab s o = rw (add-one, plus.each o, s.words o, tab.moves i (next g n h tab s).below o, ← (next g n h tab s).place)

  -- no label goes up: there is no next count
  stays : (at : Offsets) → length rows ≤ i → Advanced rows old new at at
  stays at b = record { next = λ g x n h tab s. absurd (omega (arith, b, (next g n h tab s).below, tab.rows)) }

pub returns-then-i-rows : goal.returns-then-i-rows
returns-then-i-rows c =
    let s = c.args in
    let t = c.turn-i in
    moved t.result s.rows.now s.digits.now t.new.digits t.ensures c.plus.ensures

pub returns-else-i-rows : goal.returns-else-i-rows
returns-else-i-rows c =
    let s = c.args in
    let t = c.turn-i in
    stays t.result s.rows.now s.digits.now t.new.digits t.ensures s.at (omega arith)
