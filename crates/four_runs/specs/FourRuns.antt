-- What the loops over four runs of outputs leave. Inside contracts only.
-- Assumes nothing.
use Rattle.std.specs.Prelude.{ℕ, ◌<◌, Bool, ◌≢◌, List, is_some}
use Rattle.words.specs.Loops.{each}
use Rattle.contraction.specs.declared.contraction.Operand.TheVariants.{D}
use Rattle.groups.specs.Groups.{Label}
use Rattle.offsets.specs.declared.offsets.Offsets.{Offsets}
use Rattle.output_words.specs.declared.output.Sources.{Sources}
use Rattle.output_words.specs.StartWords.{words_of}
use Rattle.sums.specs.declared.walk.Run.{Run}
use Rattle.sums.specs.Walk.{steps}
use Rattle.output_run.specs.FilledOutput.{run_filled, Clear}
use Rattle.four_sums.specs.declared.four_sums.NextRuns.{NextRuns}
use Rattle.four_sums.specs.FourRunSums.{begins_of}

-- D's words with n outputs of each of four runs filled, run after run; run q begins at from q
abbrev pub four_filled : Bool → ℕ → ℕ → List Label → List ℕ → List ℕ → List ℕ → Offsets → ℕ → (ℕ → Offsets) → List ℕ → List ℕ
four_filled named alpha beta g a b c step n from = each 4 (λ q. run_filled named alpha beta g a b c step n (from q))

-- no two of the four runs have a place of D in common
pub record Apart (len : ℕ) (from : ℕ → Offsets) (step : Offsets) : Type 0 where
  pub each : (i j : ℕ) → i < j → j < 4 → (k l : ℕ) → k < len → l < len → steps (from i) step k D ≢ steps (from j) step l D

-- ---- for a run and the next three, by the words that D is made from

abbrev pub four_of : Sources → List Label → Run → NextRuns → List ℕ → List ℕ
four_of x g run next = four_filled (is_some x.c) x.alpha x.beta g x.a.now x.b.now (words_of x.c) run.step run.len (begins_of run next)

-- what filling them may assume
abbrev pub AllFillable : Sources → List Label → Run → NextRuns → ℕ → Type 0
AllFillable x g run next size = (q : ℕ) → Clear (is_some x.c) run.len (steps (begins_of run next q) run.step) g x.a.now x.b.now (words_of x.c) size
