-- Runs of outputs from one on. Inside contracts only.
-- Assumes nothing.
use Rattle.std.specs.Prelude.{ℕ, ◌+◌, ◌*◌, ◌<◌, ◌≤◌, ◌≡◌, Bool, List, length, is_some}
use Rattle.words.specs.Loops.{each}
use Rattle.contraction.specs.declared.contraction.Operand.{Operand}
use Rattle.contraction.specs.declared.contraction.Operand.TheVariants.{A, B, D}
use Rattle.groups.specs.Groups.{Label, size}
use Rattle.offsets.specs.declared.offsets.Offsets.{Offsets}
use Rattle.offsets.specs.Offsets.{words_in}
use Rattle.odometer.specs.declared.odometer.Row.{Row}
use Rattle.odometer.specs.Odometer.{last_in, move_in, Tabled, Stands}
use Rattle.output_words.specs.declared.output.Sources.{Sources}
use Rattle.output_words.specs.StartWords.{words_of}
use Rattle.sums.specs.declared.walk.Walk.{Walk}
use Rattle.sums.specs.Walk.{places, over, Walks}
use Rattle.output_run.specs.FilledOutput.{filled, Clear}

-- D's words with the outputs of r runs filled, from run m on
abbrev pub runs_filled : Bool → ℕ → ℕ → Offsets → Walk → Walk → List ℕ → List ℕ → List ℕ → ℕ → ℕ → List ℕ → List ℕ
runs_filled named alpha beta base output depth a b c m r =
    each (output.len * r) (λ v. filled named alpha beta (over depth) a b c (places base (over output) (output.len * m + v)))

-- the same by the words that D is made from
abbrev pub runs_of : Sources → Offsets → Walk → Walk → ℕ → ℕ → List ℕ → List ℕ
runs_of x base output depth = runs_filled (is_some x.c) x.alpha x.beta base output depth x.a.now x.b.now (words_of x.c)

-- where it pays to look for four runs that share what is read of A: not for a few outputs of a run or depth counts, where A goes word by word along a run and B
-- stands still, and where the label behind the run's has four values at least and A stands still along it. A guess: it changes times only
pub record SuitsFour (step : Offsets) (len deep : ℕ) (rows : List Row) : Type 0 where
  pub outputs : 8 ≤ len
  pub depths : 4 ≤ deep
  pub along : words_in step A ≡ 1
  pub still : words_in step B ≡ 0
  pub behind : 1 ≤ length rows
  pub values : 3 ≤ last_in rows 0
  pub same : move_in rows 0 A ≡ 0

-- ---- what the loops may assume

-- no two counts below n have the same place
pub record Distinct (n : ℕ) (place : ℕ → ℕ) : Type 0 where
  pub each : (i j : ℕ) → i < n → j < n → place i ≡ place j → i ≡ j

-- the code's walks go over their groups; from each output count all that is read is inside, and D's places are inside and distinct
pub record Fillable (named : Bool) (base : Offsets) (output depth : Walk) (a b c : List ℕ) (n : ℕ) : Type 0 where
  pub outputs : Walks (over output) output
  pub depths : Walks (over depth) depth
  pub clear : Clear named (size (over output)) (places base (over output)) (over depth) a b c n
  pub distinct : Distinct (size (over output)) (λ m. places base (over output) m D)

-- the same by the words that D is made from
abbrev pub FillableFrom : Sources → Offsets → Walk → Walk → ℕ → Type 0
FillableFrom x base output depth = Fillable (is_some x.c) base output depth x.a.now x.b.now (words_of x.c)

-- ---- what is carried along

-- the address words are those of count n of the labels of g, with some digits, carried along from the words x of count 0
pub record Begins (g : List Label) (x : Operand → ℕ) (n : ℕ) (at : Offsets) : Type 0 where
  pub digits : List ℕ
  pub stands : Stands g x n digits at

-- whatever labels the rows are of, and wherever count 0 was: from the digits and address words of a count to those of the n-th after it
pub record Moved (n : ℕ) (rows : List Row) (old new : List ℕ) (at to : Offsets) : Type 0 where
  pub next : (g : List Label) (x : Operand → ℕ) (k : ℕ) → k + n < size g → Tabled g rows → Stands g x k old at → Stands g x (k + n) new to

-- and from those of a count to the address words of the three after it
pub record Ahead (rows : List Row) (digits : List ℕ) (to : ℕ → Offsets) : Type 0 where
  pub each : (g : List Label) (x : Operand → ℕ) (k : ℕ) → k + 3 < size g → Tabled g rows → Stands g x k digits (to 0)
      → (q : ℕ) → q < 4 → Begins g x (k + q) (to q)
