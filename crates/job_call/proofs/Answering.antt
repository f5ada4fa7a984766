-- Laws for the functions that answer a tile call with text. Each rewrites a definition by what the callees ensure.
-- Assumes nothing.
use mathlib.Core.Path.{◌≡◌, refl, sym, ap}
use mathlib.Core.List.{List, ◌∷◌}
use Prim.Native.Nat.{ℕ, zero, suc, ◌+◌, ◌*◌, ◌≤◌}
use native.Mathlib.Omega.{arith}
use lib.ListN.{length, replicate}
use Rattle.std.specs.Prelude.{Result, Ok, Err}
use Rattle.refusals.specs.declared.refusal.Refusal.{Refusal}
use Rattle.refusals.specs.Numbers.{number}
use Rattle.words.specs.Lists.{tabulate}
use Rattle.limits.specs.Limits.{job_limit, work_room, text_room}
use Rattle.contraction.specs.declared.contraction.Contraction.{Contraction}
use Rattle.contraction.specs.Operands.{four}
use Rattle.tiles.specs.declared.grid.Sizes.{Sizes}
use Rattle.tiles.specs.Cut.{total}
use Rattle.tile_blocks.specs.ContractionInTiles.{cut_of}
use Rattle.answers.specs.declared.tile_answer.Ran.{Ran}
use Rattle.answers.specs.TileAnswer.{TileAnswer, tile_answer, tile_call_of}
use Rattle.tiled.specs.TileCall.{tile_call}
use Rattle.states.specs.StateLetters.{state_letters}
use Rattle.tile_questions.specs.TileQuestions.{Accepted}
use Rattle.tiled.proofs.TileAnswered.{ran_accepted}
use Rattle.states.proofs.Lettering.{letters_same_lem, accepted_same}
use Rattle.report.specs.Text.{refused_text, report_text}
use Rattle.job_call.specs.Answer.{answer_text, call_text}
use Rattle.job_call.specs.TileText.{tile_text}

-- there is room for either text
pub refused_room : {room : ℕ} → text_room ≤ room → 32 ≤ room
refused_room h = omega arith

pub report_room : {n room : ℕ} → n ≤ job_limit → text_room ≤ room → 64 + 13 * n ≤ room
report_room few h = omega arith

-- the same report in other words
pub report_text_lem : (t : ℕ) (d : List ℕ) {n n' : ℕ} {ls ls' : List ℕ} → n ≡ n' → ls ≡ ls' → report_text t n d ls ≡ report_text t n' d ls'
report_text_lem t d e f = rw (e, f)

-- n zeros, as the work array holds them and as the definition has them. Over any n: as many as work_room take antt too long to compare one by one
zeros : (n : ℕ) → replicate {A = ℕ} n 0 ≡ tabulate n (λ k. 0)
zeros zero = refl
zeros (suc n) = ap (λ (l : List ℕ). 0 ∷ l) (zeros n)

-- the text of what a tile call answered, o, with D's words after it, d'
module _ (k : Contraction) (z : Sizes) (a b c d : List ℕ) (done budget : ℕ) where
  answer_text_lem : (n : ℕ) {x : TileAnswer} {d' work' : List ℕ} → tile_call_of x d' work' ≡ tile_call k z (four a b c d) (replicate n 0) done budget
      → answer_text k z (four a b c d) x d' ≡ call_text k z (four a b c d) (tile_call k z (four a b c d) (tabulate n (λ i. 0)) done budget)
  unfolding call_text
  answer_text_lem n gives = rw (← zeros n, ← gives)

  module _ {o : Result Ran Refusal} {d' work' : List ℕ} (gives : tile_call_of (tile_answer done o) d' work' ≡ tile_call k z (four a b c d) (replicate work_room 0) done budget) where
    -- it ran: the letters are asked of D's words after it, which are as many as before
    module _ {x : Ran} (is : o ≡ Ok x) (kept : length d' ≡ length d) where
      pub ran_asks : Accepted k z (four a b c d')
      ran_asks = accepted_same k z a b c d d' (sym kept) (ran_accepted k z (four a b c d) (replicate work_room 0) done budget (rw is at gives))

      pub ran_text : report_text x.done (total (cut_of k z)) d' (state_letters k z (four a b c d') x.done) ≡ tile_text k z (four a b c d) done budget
      unfolding answer_text tile_text
      ran_text = rw (letters_same_lem k z a b c d' d x.done kept) (answer_text_lem work_room (rw is at gives))

    pub refused_text_lem : {e : Refusal} → o ≡ Err e → refused_text (number e) ≡ tile_text k z (four a b c d) done budget
    unfolding answer_text tile_text
    refused_text_lem is = answer_text_lem work_room (rw is at gives)
