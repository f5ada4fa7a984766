-- What is left where the sums of a run of outputs are stored. Inside contracts only.
-- Assumes nothing.
use Rattle.std.specs.Prelude.{ℕ, Bool, List, get_or, is_some}
use Rattle.words.specs.Loops.{each, put}
use Rattle.contraction.specs.declared.contraction.Operand.TheVariants.{C, D}
use Rattle.offsets.specs.declared.offsets.Offsets.{Offsets}
use Rattle.meaning.specs.Meaning.{start_of, combined}
use Rattle.output_words.specs.declared.output.Sources.{Sources}
use Rattle.output_words.specs.StartWords.{words_of}
use Rattle.sums.specs.declared.walk.Run.{Run}
use Rattle.sums.specs.Walk.{steps}

-- D's words with those of n outputs stored, each a step from the one before: sum r is combined with what output r starts from
abbrev pub run_stored : Bool → ℕ → ℕ → List ℕ → List ℕ → Offsets → ℕ → Offsets → List ℕ → List ℕ
run_stored named alpha beta sums c step n from =
    each n (λ r. put (λ old. combined alpha beta (get_or sums r 0) (start_of named (get_or c (steps from step r C) 0) old)) (steps from step r D))

-- the same by the words that D is made from
abbrev pub stored_of : Sources → List ℕ → Run → List ℕ → List ℕ
stored_of x sums run = run_stored (is_some x.c) x.alpha x.beta sums (words_of x.c) run.step run.len run.from
