-- `set_rows` meets its contract. The invariant: the rows before i are those of their labels, and `gone` has how far these labels go. A turn sets one row more:
-- the strides of its label less that.
-- Assumes nothing.
use Rattle.std.proofs.Common.{◌≡◌, ℕ, ◌-◌, ◌<◌, List, map, get_or}
use Rattle.words.specs.Words.{word}
use Rattle.contraction.specs.declared.contraction.Operand.{Operand}
use Rattle.groups.specs.Groups.{Label}
use Rattle.groups.specs.Held.{as_label}
use Rattle.offsets.specs.declared.offsets.Offsets.{Offsets}
use Rattle.offsets.specs.Offsets.{words_in}
use Rattle.odometer.specs.declared.odometer.Row.{Row}
use Rattle.odometer.specs.Carried.{before, move}
use Rattle.odometer.specs.Odometer.{last_in, move_in}
use Rattle.odometer.proofs.odometer.set_rows.Given as goal

-- the rows before i are set
pub record Begun (g : List Label) (i : ℕ) (rows : List Row) (gone : Offsets) : Type 0 where
  pub last : (k : ℕ) → k < i → last_in rows k ≡ get_or (map (λ l. l.extent) g) k 0 - 1
  pub moves : (k : ℕ) → k < i → (o : Operand) → move_in rows k o ≡ move o g k
  pub words : (o : Operand) → words_in gone o ≡ word 64 (before o g i)

abbrev pub invariant-loop-i : goal.invariant-loop-i
invariant-loop-i l = Begun (map as_label l.labels) l.i l.rows l.gone
