-- Demand 3: one claim about a whole list of calls on one accepted contraction, from no tile done and any words of D. A's words a, B's b and C's cw stay the
-- same between calls; where C is not named, cw is not read.
-- Assumes nothing.
use Rattle.std.specs.Prelude.{ℕ, ◌+◌, ◌-◌, ◌≤◌, ◌<◌, min, ◌≡◌, ◌≢◌, ◌↔◌, true, false, cond, List, [], ◌∷◌, ◌++◌, eqb, length, get_or}
use Rattle.contraction.specs.declared.contraction.Contraction.{Contraction}
use Rattle.contraction.specs.Operands.{four}
use Rattle.meaning.specs.Meaning.{result}
use Rattle.meaning.specs.Demand2.{Demand2}
use Rattle.tiles.specs.declared.grid.Sizes.{Sizes}
use Rattle.tiles.specs.Cut.{InSizes, KB, total}
use Rattle.tiles.specs.Progress.{old, final, done, state_at}
use Rattle.tiles.specs.Setting.{word_at}
use Rattle.tile_blocks.specs.ContractionInTiles.{cut_of, address_at, setting}
use Rattle.tile_questions.specs.TileQuestions.{work_fits, is_index, Accepted}
use Rattle.answers.specs.TileAnswer.{TileAnswer, ran, tile_refused, done_in}
use Rattle.answers.specs.StateAnswer.{StateAnswer, is, state_refused}
use Rattle.tiled.specs.TileCall.{tile_call, state_call}

pub data Call : Type 0 where
  tiles : (budget : ℕ) (work : List ℕ) → Call  -- a tile call, with its own budget and work slice
  state : (h i j : ℕ) → Call  -- a question for the state of an output index

pub data Answer : Type 0 where
  tiled : TileAnswer → Answer
  found : StateAnswer → Answer

-- after calls: what they answered, the tiles done, and D's words
pub record After : Type 0 where
  pub said : List Answer
  pub t : ℕ
  pub words : List ℕ

module _ (c : Contraction) (z : Sizes) (a b cw : List ℕ) where
  -- a list of calls, each with the tiles done and D's words that the one before it left
  unfoldable pub run : List Call → ℕ → List ℕ → After
  run [] t d = record { said = []; t = t; words = d }
  run (tiles budget work ∷ cs) t d =
      let one = tile_call c z (four a b cw d) work t budget in
      let rest = run cs (done_in one.answer) one.words in
      record { said = tiled one.answer ∷ rest.said; t = rest.t; words = rest.words }
  run (state h i j ∷ cs) t d =
      let rest = run cs t d in
      record { said = found (state_call c z (four a b cw d) t h i j) ∷ rest.said; t = rest.t; words = rest.words }

-- ---- t and the answers follow the calls' arguments alone
module _ (c : Contraction) (z : Sizes) where
  -- a tile call adds the smaller of its budget and total - t; one that is refused, and a state question, leave t as it was
  unfoldable pub next : Call → ℕ → ℕ
  next (tiles budget work) t = cond (work_fits z (length work)) (t + min budget (total (cut_of c z) - t)) t
  next (state h i j) t = t

  -- a tile call answers the new t and whether that is the total, or 11; a state question the state at t, or 13
  unfoldable pub answer : Call → ℕ → Answer
  answer (tiles budget work) t =
      tiled (cond (work_fits z (length work)) (ran (next (tiles budget work) t) (eqb (next (tiles budget work) t) (total (cut_of c z)))) (tile_refused 11 t))
  answer (state h i j) t = found (cond (is_index (cut_of c z) h i j) (is (state_at (cut_of c z) t h i j)) (state_refused 13))

  unfoldable pub count : List Call → ℕ → ℕ
  count [] t = t
  count (x ∷ cs) t = count cs (next x t)

  unfoldable pub answers : List Call → ℕ → List Answer
  answers [] t = []
  answers (x ∷ cs) t = answer x t ∷ answers cs (next x t)

-- what holds after a list of calls that began at t = 0 with the words d
pub record Demand3 (c : Contraction) (z : Sizes) (a b cw d : List ℕ) (calls : List Call) : Type 0 where
  pub said : (run c z a b cw calls 0 d).said ≡ answers c z calls 0
  pub counted : (run c z a b cw calls 0 d).t ≡ count c z calls 0
  pub within : count c z calls 0 ≤ total (cut_of c z)
  pub same_length : length (run c z a b cw calls 0 d).words ≡ length d
  -- the word of an output index: the old one while panel 0 isn't done; after that beta × C's entry, or × the old word where C is not named, + alpha × the sum
  -- over the panels done
  pub addressed : (h i j : ℕ) → InSizes (cut_of c z) h i j
      → get_or (run c z a b cw calls 0 d).words (address_at c h i j) 0
      ≡ word_at (setting c z (four a b cw d)) (count c z calls 0) h i j (get_or d (address_at c h i j) 0)
  -- a word that no output index addresses has its old value
  pub others : (x : ℕ) → ((h i j : ℕ) → InSizes (cut_of c z) h i j → address_at c h i j ≢ x) → get_or (run c z a b cw calls 0 d).words x 0 ≡ get_or d x 0
  -- old exactly when no panel is done, final exactly when all are
  pub old_when : (h i j : ℕ) → InSizes (cut_of c z) h i j
      → (state_at (cut_of c z) (count c z calls 0) h i j ≡ old) ↔ ((p : ℕ) → p < KB (cut_of c z) → done (cut_of c z) (count c z calls 0) h i j p ≡ false)
  pub final_when : (h i j : ℕ) → InSizes (cut_of c z) h i j
      → (state_at (cut_of c z) (count c z calls 0) h i j ≡ final) ↔ ((p : ℕ) → p < KB (cut_of c z) → done (cut_of c z) (count c z calls 0) h i j p ≡ true)

-- for every accepted contraction and every list of calls, demand 3 holds
abbrev pub EveryListMeetsDemand3 : Type 0
EveryListMeetsDemand3 = (c : Contraction) (z : Sizes) (a b cw d : List ℕ) → Accepted c z (four a b cw d) → (calls : List Call) → Demand3 c z a b cw d calls

-- what follows
pub record Consequences (c : Contraction) (z : Sizes) (a b cw d : List ℕ) : Type 0 where
  -- after the last tile D is the plain engine's result, and so meets demand 2
  pub last_tile : (calls : List Call) → count c z calls 0 ≡ total (cut_of c z) → (run c z a b cw calls 0 d).words ≡ result c (four a b cw d)
  pub demand2 : (calls : List Call) → count c z calls 0 ≡ total (cut_of c z) → Demand2 c (four a b cw d) (run c z a b cw calls 0 d).words
  -- a word is old until its first panel is in, and final from its last panel on
  pub old_until : (calls : List Call) (h i j : ℕ) → InSizes (cut_of c z) h i j
      → (state_at (cut_of c z) (count c z calls 0) h i j ≡ old) ↔ (done (cut_of c z) (count c z calls 0) h i j 0 ≡ false)
  pub final_from : (calls : List Call) (h i j : ℕ) → InSizes (cut_of c z) h i j
      → (state_at (cut_of c z) (count c z calls 0) h i j ≡ final) ↔ (done (cut_of c z) (count c z calls 0) h i j (KB (cut_of c z) - 1) ≡ true)
  -- the tiles done never exceed the total
  pub never_past : (calls : List Call) → (run c z a b cw calls 0 d).t ≤ total (cut_of c z)
  -- calls that come to the same count leave the same words
  pub any_cutting : (calls others : List Call) → count c z calls 0 ≡ count c z others 0 → (run c z a b cw calls 0 d).words ≡ (run c z a b cw others 0 d).words
  -- so a run that is cut into any calls leaves what one call with the budget of all leaves
  pub one_call : (calls : List Call) (work : List ℕ) → work_fits z (length work) ≡ true
      → (run c z a b cw calls 0 d).words ≡ (run c z a b cw (tiles (count c z calls 0) work ∷ []) 0 d).words
  -- a final word never changes again
  pub final_stays : (calls more : List Call) (h i j : ℕ) → InSizes (cut_of c z) h i j → state_at (cut_of c z) (count c z calls 0) h i j ≡ final
      → get_or (run c z a b cw (calls ++ more) 0 d).words (address_at c h i j) 0 ≡ get_or (run c z a b cw calls 0 d).words (address_at c h i j) 0

-- for every accepted contraction
abbrev pub ConsequencesHold : Type 0
ConsequencesHold = (c : Contraction) (z : Sizes) (a b cw d : List ℕ) → Accepted c z (four a b cw d) → Consequences c z a b cw d
