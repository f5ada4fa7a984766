-- What follows from demand 3: D's words are the closed form at the count, so they depend on the count alone; at the total that is the plain result.
-- More calls only raise the count, and the word of a final index is the same at any later count.
-- Assumes nothing.
use mathlib.Core.Path.{◌≡◌, refl, sym, ap, ◌∙◌}
use mathlib.Core.Logic.{◌↔◌}
use mathlib.Core.Bool.{Bool, true, false}
use mathlib.Core.List.{List, [], ◌∷◌, ◌++◌}
use Prim.Native.Nat.{ℕ, ◌-◌, ◌≤◌, zero-le}
use native.Mathlib.Omega.{arith}
use lib.ListN.{length, get_or}
use Rattle.contraction.specs.declared.contraction.Contraction.{Contraction}
use Rattle.contraction.specs.Operands.{four, tensors}
use Rattle.questions.proofs.Ready.{AllPassed}
use Rattle.meaning.specs.Meaning.{lengths_in, result}
use Rattle.meaning.proofs.Demand2.{passed_demand2}
use Rattle.tiles.specs.declared.grid.Sizes.{Sizes}
use Rattle.tiles.specs.Cut.{Cut, KB, total}
use Rattle.tiles.specs.Progress.{old, final, done, state_at}
use Rattle.tiles.specs.Setting.{closed}
use Rattle.tiles.proofs.Numbering.{KB_pos}
use Rattle.tiles.proofs.Progress.{done_down}
use Rattle.tiles.proofs.States.{old_none, final_all}
use Rattle.tiles.proofs.PanelWords.{final_word}
use Rattle.tile_blocks.specs.ContractionInTiles.{cut_of, address_at, setting}
use Rattle.tile_questions.specs.TileQuestions.{sizes_fit, work_fits, Accepted}
use Rattle.tiled.specs.Demand3.{Call, tiles, run, next, count, Consequences, ConsequencesHold}
use Rattle.accept.proofs.Soundness.{closed_result}
use Rattle.accept.proofs.AcceptQuestions.{accepted}
use Rattle.tiled.proofs.Demand3.{count_le, words_closed, demand3}

-- ---- the state by one panel: the panels done are the first ones

module _ (G : Cut) (t h i j : ℕ) where
  -- old: the first is not done
  pub old_first : (state_at G t h i j ≡ old) ↔ (done G t h i j 0 ≡ false)
  old_first = (λ e. (old_none G h i j t).0 e 0 (KB_pos G), λ e. (old_none G h i j t).1 (λ p b. none e p (done G t h i j p) refl))
    where
      none : done G t h i j 0 ≡ false → (p : ℕ) (x : Bool) → done G t h i j p ≡ x → x ≡ false
      none e p false f = refl
      none e p true f = sym (done_down G h i j t 0 p zero-le f) ∙ e

  -- final: the last is
  pub final_last : (state_at G t h i j ≡ final) ↔ (done G t h i j (KB G - 1) ≡ true)
  final_last = (
    λ e. (final_all G h i j t).0 e (KB G - 1) (omega (arith, KB_pos G)),
    λ e. (final_all G h i j t).1 (λ p b. done_down G h i j t p (KB G - 1) (omega arith) e),
  )

-- ---- lists of calls

count_append : (c : Contraction) (z : Sizes) (calls more : List Call) (t : ℕ) → count c z (calls ++ more) t ≡ count c z more (count c z calls t)
unfolding count
count_append c z [] more t = refl
count_append c z (x ∷ calls) more t = count_append c z calls more (next c z x t)

module _ (c : Contraction) (z : Sizes) (a b cw d : List ℕ) (ok : Accepted c z (four a b cw d)) where
  count_grows : (calls more : List Call) → count c z calls 0 ≤ count c z (calls ++ more) 0
  count_grows calls more = rw (count_append c z calls more 0) (count_le c z more (count_le c z calls zero-le).1).0

  same_words : (calls others : List Call) → count c z calls 0 ≡ count c z others 0 → (run c z a b cw calls 0 d).words ≡ (run c z a b cw others 0 d).words
  same_words calls others e =
      words_closed c z a b cw d ok.passed calls ∙ ap (λ (n : ℕ). closed (setting c z (four a b cw d)) n d) e ∙ sym (words_closed c z a b cw d ok.passed others)

  -- one call with the budget n comes to n
  one_count : (n : ℕ) (work : List ℕ) → n ≤ total (cut_of c z) → work_fits z (length work) ≡ true → n ≡ count c z (tiles n work ∷ []) 0
  unfolding count next
  one_count n work h e = rw e (omega (arith, h))

  -- questions 1 to 9 pass, and 10
  pub passes : AllPassed (tensors c) (lengths_in c (four a b cw d)) × (sizes_fit z ≡ true)
  passes = accepted c z (four a b cw d) ok.passed

  as_result : (calls : List Call) → count c z calls 0 ≡ total (cut_of c z) → (run c z a b cw calls 0 d).words ≡ result c (four a b cw d)
  unfolding setting
  as_result calls e =
      words_closed c z a b cw d ok.passed calls
      ∙ ap (λ (n : ℕ). closed (setting c z (four a b cw d)) n d) e
      ∙ closed_result c z (four a b cw d) passes.0 passes.1

  follows : Consequences c z a b cw d
  unfolding setting
  follows =
      record {
        last_tile = as_result;
        demand2 = λ calls e. rw (as_result calls e) (passed_demand2 c (four a b cw d) passes.0);
        old_until = λ calls h i j k. old_first (cut_of c z) (count c z calls 0) h i j;
        final_from = λ calls h i j k. final_last (cut_of c z) (count c z calls 0) h i j;
        never_past = λ calls. let h = demand3 c z a b cw d ok calls in rw h.counted h.within;
        any_cutting = same_words;
        one_call = λ calls work e. same_words calls (tiles (count c z calls 0) work ∷ []) (one_count (count c z calls 0) work (demand3 c z a b cw d ok calls).within e);
        final_stays = λ calls more h i j k e. (demand3 c z a b cw d ok (calls ++ more)).addressed h i j k
            ∙ final_word (setting c z (four a b cw d)) h i j e (count_grows calls more) (get_or d (address_at c h i j) 0)
            ∙ sym ((demand3 c z a b cw d ok calls).addressed h i j k);
      }

pub consequences : ConsequencesHold
consequences = follows
