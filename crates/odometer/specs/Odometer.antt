-- The odometer as the code holds it: a row for each label, digits and address words. Inside contracts only.
-- Assumes nothing.
use Rattle.std.specs.Prelude.{◌≡◌, ℕ, ◌+◌, ◌-◌, ◌<◌, ◌≤◌, List, [], map, length, drop, slice_index, slice_index_or}
use Rattle.limits.specs.Limits.{labels_limit}
use Rattle.contraction.specs.declared.contraction.Operand.{Operand}
use Rattle.groups.specs.Groups.{Label, size}
use Rattle.offsets.specs.declared.offsets.Offsets.{Offsets}
use Rattle.offsets.specs.Offsets.{words_in}
use Rattle.odometer.specs.declared.odometer.Row.{Row}
use Rattle.odometer.specs.Carried.{digits, move, carried}

-- what an array holds where there is no row
abbrev pub no_row : Row
no_row = record { last = 0; moves = record { words = [] } }

-- a row for each label: its last value, and how far each tensor moves when it goes up
abbrev pub last_in : List Row → ℕ → ℕ
last_in rows i = (slice_index_or rows i no_row).last

abbrev pub move_in : List Row → ℕ → Operand → ℕ
move_in rows i o = words_in (slice_index_or rows i no_row).moves o

-- the rows are those of the labels of g
pub record Tabled (g : List Label) (table : List Row) : Type 0 where
  pub rows : length table ≡ length g
  pub last : (i : ℕ) → i < length g → last_in table i ≡ slice_index (map (λ l. l.extent) g) i - 1
  pub moves : (i : ℕ) → i < length g → (o : Operand) → move_in table i o ≡ move o g i

-- a group is walked in runs of its first label: the rows of the labels behind that one, by which the runs' first places are carried along
pub record Rows (g : List Label) (table : List Row) : Type 0 where
  pub few : length table ≤ labels_limit
  pub tabled : Tabled (drop 1 g) table

-- the digits and the address words are those of count n of the labels of g, carried along from the words x of count 0
pub record Stands (g : List Label) (x : Operand → ℕ) (n : ℕ) (array : List ℕ) (at : Offsets) : Type 0 where
  pub digits : (i : ℕ) → i < length g → slice_index array i ≡ slice_index (digits g n) i
  pub words : (o : Operand) → words_in at o ≡ carried o (x o) g n

-- from the digits `old` to `new`: the first label below its last value goes up, those before it go back to 0, the others stay. r is its place, or the number
-- of labels where there is none
pub record Turned (count : ℕ) (last old new : ℕ → ℕ) (r : ℕ) : Type 0 where
  pub within : r ≤ count
  pub full : (i : ℕ) → i < r → last i ≤ old i
  pub cleared : (i : ℕ) → i < r → new i ≡ 0
  pub free : r < count → old r < last r
  pub up : r < count → new r ≡ old r + 1
  pub others : (i : ℕ) → r < i → new i ≡ old i

-- whatever labels the rows are of, and wherever count 0 was: from the digits and address words of a count to those of the next
pub record Advanced (rows : List Row) (old new : List ℕ) (at to : Offsets) : Type 0 where
  pub next : (g : List Label) (x : Operand → ℕ) (n : ℕ) → n + 1 < size g → Tabled g rows → Stands g x n old at → Stands g x (n + 1) new to
