-- Demand 3: after any list of calls on an accepted contraction, t is the count that the calls' arguments give, and D's words are the closed form at that t.
-- The start is the closed form at 0. A tile call runs the tiles from t on, which takes the closed form at t to the one at the new t; a refused call and a state
-- question leave both. Each call is accepted as the first was: of D's slice the questions read the length alone, which stays, and the setting reads nothing.
-- The fields then say what the closed form is, word by word.
-- Assumes nothing.
use mathlib.Core.Path.{◌≡◌, refl, sym, ap, ◌∙◌}
use mathlib.Core.Bool.{Bool, true, false, cond}
use mathlib.Core.List.{List, [], ◌∷◌}
use Prim.Native.Nat.{ℕ, ◌+◌, ◌-◌, ◌≤◌, zero-le, min}
use native.Mathlib.Nat.{le_refl, le_trans}
use native.Mathlib.Omega.{arith}
use lib.Dec.{eqb}
use lib.ListN.{length, get_or}
use Rattle.contraction.specs.declared.contraction.Contraction.{Contraction}
use Rattle.contraction.specs.Operands.{four}
use Rattle.tensor_answers.specs.Asking.{refusal}
use Rattle.tiles.specs.declared.grid.Sizes.{Sizes}
use Rattle.tiles.specs.Cut.{total}
use Rattle.tiles.specs.Setting.{Setting, closed, walk, tiles_from}
use Rattle.tiles.proofs.States.{old_none, final_all}
use Rattle.tiles.proofs.Closed.{Sound, length_closed, closed_shows, walk_closed, closed_zero}
use Rattle.tile_blocks.specs.ContractionInTiles.{cut_of, address_at, setting}
use Rattle.tile_questions.specs.TileQuestions.{work_fits, accept_questions}
use Rattle.answers.specs.TileAnswer.{done_in, ran, tile_refused, TileCall, tile_call_of}
use Rattle.tiled.specs.TileCall.{ran_call, tile_call, state_call}
use Rattle.tiled.specs.Demand3.{Call, tiles, state, Answer, tiled, found, After, run, next, answer, count, answers, Demand3, EveryListMeetsDemand3}
use Rattle.accept.proofs.Soundness.{setting_same, sound}
use Rattle.accept.proofs.AcceptQuestions.{same_questions, accepted}
use Rattle.tiled.proofs.TileAnswered.{tile_answers, state_answers}

-- ---- the count of tiles done

module _ (c : Contraction) (z : Sizes) where
  next_le : (x : Call) {t : ℕ} → t ≤ total (cut_of c z) → (t ≤ next c z x t) × (next c z x t ≤ total (cut_of c z))
  unfolding next
  next_le (tiles budget work) {t} b = go (work_fits z (length work))
    where
      go : (x : Bool) → (t ≤ cond x (t + min budget (total (cut_of c z) - t)) t) × (cond x (t + min budget (total (cut_of c z) - t)) t ≤ total (cut_of c z))
      go true = (omega arith, omega arith)
      go false = (le_refl t, b)
  next_le (state h i j) {t} b = (le_refl t, b)

  pub count_le : (cs : List Call) {t : ℕ} → t ≤ total (cut_of c z) → (t ≤ count c z cs t) × (count c z cs t ≤ total (cut_of c z))
  unfolding count
  count_le [] {t} b = (le_refl t, b)
  count_le (x ∷ cs) b = let s = next_le x b in let r = count_le cs s.1 in (le_trans s.0 r.0, r.1)

-- ---- the calls

-- an answer in front of those of the calls after it
abbrev ahead : Answer → After → After
ahead x rest = record { said = x ∷ rest.said; t = rest.t; words = rest.words }

module _ (c : Contraction) (z : Sizes) (a b cw d : List ℕ) (ok : refusal (accept_questions c z (four a b cw d)) ≡ 0) where
  abbrev S : Setting
  S = setting c z (four a b cw d)

  -- D's words after t tiles
  abbrev at : ℕ → List ℕ
  at t = closed S t d

  is_sound : Sound S (length d)
  is_sound = let w = accepted c z (four a b cw d) ok in sound c z (four a b cw d) w.0 w.1

  -- acceptance reads the length of D's slice only
  still : (t : ℕ) → refusal (accept_questions c z (four a b cw (at t))) ≡ 0
  still t = same_questions c z a b cw d (at t) (length_closed S t d) ∙ ok

  -- ---- one call, from the closed form at t

  -- the tiles from t on
  ran_closed : (n t : ℕ) → t + n ≤ total (cut_of c z) → walk (setting c z (four a b cw (at t))) (tiles_from t n) (at t) ≡ at (t + n)
  unfolding setting
  ran_closed n t h = ap (λ (s : Setting). walk s (tiles_from t n) (at t)) (setting_same c z (four a b cw (at t)) (four a b cw d) refl refl refl) ∙ walk_closed S d is_sound n t h

  -- what a tile call answers, and the tiles done and D's words that it leaves
  abbrev Leaves : TileCall → Answer → ℕ → Type 0
  Leaves one x t = (tiled one.answer ≡ x) × (done_in one.answer ≡ t) × (one.words ≡ at t)

  tile_leaves : (budget : ℕ) (work : List ℕ) (t : ℕ) → t ≤ total (cut_of c z)
      → Leaves (tile_call c z (four a b cw (at t)) work t budget) (answer c z (tiles budget work) t) (next c z (tiles budget work) t)
  unfolding answer next ran_call
  tile_leaves budget work t h = rw (tile_answers c z (four a b cw (at t)) work t budget (still t) h) (go (work_fits z (length work)))
    where
      new : Bool → ℕ
      new x = cond x (t + min budget (total (cut_of c z) - t)) t

      go : (x : Bool) → Leaves (cond x (ran_call c z (four a b cw (at t)) work t budget) (tile_call_of (tile_refused 11 t) (at t) work))
          (tiled (cond x (ran (new x) (eqb (new x) (total (cut_of c z)))) (tile_refused 11 t))) (new x)
      go true = (refl, refl, ran_closed (min budget (total (cut_of c z) - t)) t (omega arith))
      go false = (refl, refl, refl)

  state_said : (h i j t : ℕ) → t ≤ total (cut_of c z) → found (state_call c z (four a b cw (at t)) t h i j) ≡ answer c z (state h i j) t
  unfolding answer
  state_said h i j t k = ap found (state_answers c z (four a b cw (at t)) t h i j (still t) k)

  -- ---- any list of them

  run_closed : (cs : List Call) (t : ℕ) → t ≤ total (cut_of c z)
      → run c z a b cw cs t (at t) ≡ record { said = answers c z cs t; t = count c z cs t; words = at (count c z cs t) }
  unfolding run count answers next
  run_closed [] t h = refl
  run_closed (tiles budget work ∷ cs) t h =
      let w = tile_leaves budget work t h in
      (λ k. ahead (w.0 k) (run c z a b cw cs (w.1 k) (w.2 k)))
      ∙ ap (ahead (answer c z (tiles budget work) t)) (run_closed cs (next c z (tiles budget work) t) (next_le c z (tiles budget work) h).1)
  run_closed (state i j k ∷ cs) t h =
      ap (λ (x : Answer). ahead x (run c z a b cw cs t (at t))) (state_said i j k t h) ∙ ap (ahead (answer c z (state i j k) t)) (run_closed cs t h)

  whole : (calls : List Call) → run c z a b cw calls 0 d ≡ record { said = answers c z calls 0; t = count c z calls 0; words = at (count c z calls 0) }
  whole calls = ap (run c z a b cw calls 0) (sym (closed_zero S d is_sound)) ∙ run_closed calls 0 zero-le

  pub words_closed : (calls : List Call) → (run c z a b cw calls 0 d).words ≡ at (count c z calls 0)
  words_closed calls = ap (λ (x : After). x.words) (whole calls)

  holds : (calls : List Call) → Demand3 c z a b cw d calls
  unfolding setting
  holds calls =
      let n : ℕ = count c z calls 0 in
      let w : (run c z a b cw calls 0 d).words ≡ at n = words_closed calls in
      let s = closed_shows S d is_sound n in
      record {
        said = ap (λ (x : After). x.said) (whole calls);
        counted = ap (λ (x : After). x.t) (whole calls);
        within = (count_le c z calls zero-le).1;
        same_length = ap length w ∙ s.len;
        addressed = λ h i j k. ap (λ (e : List ℕ). get_or e (address_at c h i j) 0) w ∙ s.hit (h, i, j) k tt;
        others = λ x off. ap (λ (e : List ℕ). get_or e x 0) w ∙ s.miss x (λ q k p. off q.0 q.1 q.2 k);
        old_when = λ h i j k. old_none (cut_of c z) h i j n;
        final_when = λ h i j k. final_all (cut_of c z) h i j n;
      }

pub demand3 : EveryListMeetsDemand3
demand3 c z a b cw d ok calls = holds c z a b cw d ok.passed calls
