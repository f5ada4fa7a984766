-- Four runs of outputs that share what is read of A. Inside contracts only.
-- Assumes nothing.
use Rattle.std.specs.Prelude.{◌≡◌, ℕ, ◌+◌, List}
use Rattle.words.specs.Words.{word}
use Rattle.words.specs.Stepped.{stepped}
use Rattle.contraction.specs.declared.contraction.Operand.TheVariants.{A, B}
use Rattle.offsets.specs.declared.offsets.Offsets.{Offsets}
use Rattle.offsets.specs.Offsets.{words_in}
use Rattle.sums.specs.declared.walk.Run.{Run}
use Rattle.side_sums.specs.SideSums.{side_run, RunsInside}
use Rattle.four_lanes.specs.FourLanes.{of_run, LanesAdded}
use Rattle.four_sums.specs.declared.four_sums.NextRuns.{NextRuns}

-- where a run of outputs and the next three begin
abbrev pub begins_of : Run → NextRuns → ℕ → Offsets
begins_of run next = of_run run.from next.second next.third next.fourth

-- along a run A goes word by word and B stands still, and A's address word is the same where each of the runs begins
pub record Shared (from : ℕ → Offsets) (step : Offsets) : Type 0 where
  pub along : words_in step A ≡ 1
  pub still : words_in step B ≡ 0
  pub same : (q : ℕ) → words_in (from q) A ≡ words_in (from 0) A

-- ---- a run of `len` depth counts, each a step from the one before

-- B's address word of the run of outputs that is `to` further than where the first one is
abbrev pub on_from : Offsets → ℕ → ℕ
on_from at to = word 64 (words_in at B + to)

-- all that it reads for n outputs, which have B's word j first, is inside
abbrev pub RunInside : ℕ → Offsets → Offsets → ℕ → List ℕ → List ℕ → ℕ → Type 0
RunInside n at step len a b j = RunsInside n len (side_run (words_in at A) 1 (words_in step A)) (λ r. stepped j (words_in step B)) a b

-- and its products are added to their sums
abbrev pub RunAdded : ℕ → Offsets → Offsets → ℕ → List ℕ → List ℕ → ℕ → List ℕ → List ℕ → Type 0
RunAdded n at step len a b j = LanesAdded n len (words_in at A) (words_in step A) a j (words_in step B) b
