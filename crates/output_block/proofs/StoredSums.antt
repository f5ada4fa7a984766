-- Sums that are those of the outputs of a run modulo 2^32 leave the filled run: to reduce a sum changes nothing.
-- Assumes nothing.
use mathlib.Core.Path.{◌≡◌, ap, ◌∙◌}
use mathlib.Core.Bool.{Bool}
use mathlib.Core.List.{List}
use Prim.Native.Nat.{ℕ}
use lib.ListN.{get_or, set}
use Rattle.words.specs.Loops.{put}
use Rattle.words.proofs.Loops.{each_ext}
use Rattle.contraction.specs.declared.contraction.Operand.TheVariants.{C, D}
use Rattle.groups.specs.Groups.{Label}
use Rattle.offsets.specs.declared.offsets.Offsets.{Offsets}
use Rattle.meaning.specs.Meaning.{start_of}
use Rattle.output_words.proofs.CombinedWords.{combined_same}
use Rattle.sums.specs.Walk.{steps, sum_from}
use Rattle.output_run.specs.FilledOutput.{filled, run_filled}
use Rattle.side_sums.specs.SideSums.{Sums}
use Rattle.output_block.specs.StoredRun.{run_stored}

pub stored_run : (named : Bool) (alpha beta : ℕ) (g : List Label) (a b c : List ℕ) (from step : Offsets) {n : ℕ} {sums : List ℕ} (d : List ℕ) {new : List ℕ}
    → Sums n (λ r. sum_from g a b (steps from step r)) sums → new ≡ run_stored named alpha beta sums c step n from d
    → new ≡ run_filled named alpha beta g a b c step n from d
unfolding put filled
stored_run named alpha beta g a b c from step {n} {sums} d s e =
    e
    ∙ each_ext n
    (λ r h ds. ap (set ds (steps from step r D))
    (combined_same alpha beta (get_or sums r 0) (sum_from g a b (steps from step r)) (start_of named (get_or c (steps from step r C) 0) (get_or ds (steps from step r D) 0)) (s.each r h)))
    d
