-- `fill_four_blocks` meets its contract: the sums of each run are those of its outputs modulo 2^32, and so each stored run is the filled one.
-- Assumes nothing.
use mathlib.Core.Path.{◌≡◌, refl, ap, ◌∙◌}
use mathlib.Core.Bool.{Bool}
use mathlib.Core.List.{List}
use Prim.Native.Nat.{ℕ, ◌≤◌}
use lib.ListN.{replicate}
use Rattle.std.specs.Prelude.{is_some}
use Rattle.words.specs.Loops.{each, Within}
use Rattle.limits.specs.Limits.{block_limit}
use Rattle.groups.specs.Groups.{Label}
use Rattle.offsets.specs.declared.offsets.Offsets.{Offsets}
use Rattle.output_words.specs.StartWords.{words_of}
use Rattle.sums.specs.Walk.{steps, sum_from, over}
use Rattle.side_sums.specs.SideSums.{Added}
use Rattle.side_sums.proofs.GroupSums.{total}
use Rattle.output_run.specs.FilledOutput.{run_filled}
use Rattle.output_block.specs.StoredRun.{run_stored}
use Rattle.output_block.proofs.StoredSums.{stored_run}
use Rattle.four_runs.proofs.four_runs.fill_four_blocks.Goals as goal

-- one run more: its sums, from 0, are stored
module _ (named : Bool) (alpha beta : ℕ) (g : List Label) (a b c : List ℕ) (step : Offsets) {n : ℕ} (few : n ≤ block_limit) where
  one_more : (from : Offsets) {sums d e new : List ℕ} → Added n (λ r. sum_from g a b (steps from step r)) (replicate block_limit 0) sums
      → d ≡ e → new ≡ run_stored named alpha beta sums c step n from d → new ≡ run_filled named alpha beta g a b c step n from e
  one_more from {d = d} s p e = stored_run named alpha beta g a b c from step d (total few s) e ∙ ap (run_filled named alpha beta g a b c step n from) p

-- D is as long as it was
still_within : {n : ℕ} {place : ℕ → ℕ} {old new : ℕ} → new ≡ old → Within n place old → Within n place new
still_within e w = rw e w

pub four_sums-requires : goal.four_sums-requires
four_sums-requires c =
    let p = c.requires in
    (p.0, p.1, record { first = refl; second = refl; third = refl; fourth = refl }, p.2, λ q. record { each = (p.3 q).reads })

pub store_run-requires : goal.store_run-requires
store_run-requires c = let p = c.requires in (p.1, (p.3 0).starts, (p.3 0).writes)

pub store_run-requires-2 : goal.store_run-requires-2
store_run-requires-2 c =
    let p = c.requires in
    (p.1, (p.3 1).starts, still_within c.store_run.auto.d (p.3 1).writes)

pub store_run-requires-3 : goal.store_run-requires-3
store_run-requires-3 c =
    let p = c.requires in
    (p.1, (p.3 2).starts, still_within (c.store_run-2.auto.d ∙ c.store_run.auto.d) (p.3 2).writes)

pub store_run-requires-4 : goal.store_run-requires-4
store_run-requires-4 c =
    let p = c.requires in
    (p.1, (p.3 3).starts, still_within (c.store_run-3.auto.d ∙ c.store_run-2.auto.d ∙ c.store_run.auto.d) (p.3 3).writes)

pub returns : goal.returns
unfolding each
returns c =
    let x = c.args.x.now in
    let block = c.args.block in
    let next = c.args.next in
    let e = c.four_sums.ensures in
    one_more (is_some x.c) x.alpha x.beta (over c.args.depth.now.walk) x.a.now x.b.now (words_of x.c) block.step c.requires.1 next.fourth e.3
    (one_more (is_some x.c) x.alpha x.beta (over c.args.depth.now.walk) x.a.now x.b.now (words_of x.c) block.step c.requires.1 next.third e.2
    (one_more (is_some x.c) x.alpha x.beta (over c.args.depth.now.walk) x.a.now x.b.now (words_of x.c) block.step c.requires.1 next.second e.1
    (one_more (is_some x.c) x.alpha x.beta (over c.args.depth.now.walk) x.a.now x.b.now (words_of x.c) block.step c.requires.1 block.from e.0 refl c.store_run.ensures)
    c.store_run-2.ensures) c.store_run-3.ensures) c.store_run-4.ensures
