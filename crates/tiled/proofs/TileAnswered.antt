-- What a tile call and a state question answer and leave, where a question refused and where all passed. Both calls ask 1 to 10 first, and the
-- rest where those pass.
-- Assumes nothing.
use mathlib.Core.Path.{◌≡◌, refl, sym, ◌∙◌, ap}
use mathlib.Core.Bool.{Bool, true, false, cond, ◌&&◌}
use mathlib.Core.List.{List, ◌++◌}
use Prim.Native.Nat.{ℕ, ◌+◌, ◌*◌, ◌≤◌, ◌<◌}
use native.Mathlib.Omega.{arith}
use lib.Dec.{eqb, leb, ltb}
use lib.ListN.{length}
use borrow.Author.Tests.{le-leb}
use Rattle.contraction.specs.declared.contraction.Contraction.{Contraction}
use Rattle.contraction.specs.declared.contraction.Operand.TheVariants.{D}
use Rattle.tensor_answers.specs.Asking.{Question, refusal}
use Rattle.tensor_answers.proofs.Refusal.{refusal_next, refusal_first, answers_no, answers_yes, refusal_both}
use Rattle.meaning.specs.Meaning.{Slices}
use Rattle.tiles.specs.declared.grid.Sizes.{Sizes}
use Rattle.tiles.specs.Cut.{total}
use Rattle.tiles.specs.Progress.{state_at}
use Rattle.tile_blocks.specs.ContractionInTiles.{cut_of}
use Rattle.tile_questions.specs.TileQuestions.{room_question, done_question, index_question, accept_questions, tile_questions, state_questions, Accepted}
use Rattle.accept.proofs.AcceptQuestions.{numbered}
use Rattle.answers.specs.TileAnswer.{TileCall, tile_refused, tile_call_of, ran}
use Rattle.answers.specs.StateAnswer.{is, state_refused}
use Rattle.tiled.specs.TileCall.{ran_call, tile_call, state_call}
use Rattle.words.proofs.Lists.{eqb-true}

module _ (c : Contraction) (z : Sizes) (w : Slices) where
  -- a call that asks 1 to 10 and then the rest: x where all pass, else f of the number that refuses
  module _ (rest : List Question) {X : Type 0} (x : X) (f : ℕ → X) where
    abbrev number : ℕ
    number = refusal (accept_questions c z w ++ rest)

    abbrev answer : X
    answer = cond (eqb number 0) x (f number)

    -- one of 1 to 10 refuses with the number k
    early : {k : ℕ} → k ≡ refusal (accept_questions c z w) → (k ≡ 0 → ⊥) → f k ≡ answer
    early e h = answers_no x f (refusal_first (accept_questions c z w) rest (λ y. h (e ∙ y)) ∙ sym e) h

    -- they pass, and the rest gives k
    module _ (a : refusal (accept_questions c z w) ≡ 0) {k : ℕ} (e : k ≡ refusal rest) where
      late : number ≡ k
      late = refusal_next (accept_questions c z w) rest (numbered c z w) a ∙ sym e

      late_refuses : (k ≡ 0 → ⊥) → f k ≡ answer
      late_refuses = answers_no x f late

      late_passes : k ≡ 0 → x ≡ answer
      late_passes h = answers_yes x f (late ∙ h)

    -- they pass, and of the rest all hangs on question m
    hangs : refusal (accept_questions c z w) ≡ 0 → (b : Bool) (m : ℕ) → 0 < m → cond b 0 m ≡ refusal rest → answer ≡ cond b x (f m)
    hangs a true m h e = sym (late_passes a e refl)
    hangs a false m h e = sym (late_refuses a e (λ y. omega (arith, h, y)))

  -- a tile call: k is the number that questions 1 to 10 gave, or where they pass, that 11 and 12 gave
  module _ (work : List ℕ) (t budget : ℕ) where
    abbrev later : List Question
    later = room_question z (length work) ++ done_question (cut_of c z) t

    abbrev no : ℕ → TileCall
    no k = tile_call_of (tile_refused k t) (w D) work

    pub tile_early : {k : ℕ} → k ≡ refusal (accept_questions c z w) → (k ≡ 0 → ⊥) → no k ≡ tile_call c z w work t budget
    unfolding tile_call tile_questions
    tile_early = early later (ran_call c z w work t budget) no

    module _ (a : refusal (accept_questions c z w) ≡ 0) where
      pub tile_late : {k : ℕ} → k ≡ refusal later → (k ≡ 0 → ⊥) → no k ≡ tile_call c z w work t budget
      unfolding tile_call tile_questions
      tile_late = late_refuses later (ran_call c z w work t budget) no a

      pub tile_ran : {k : ℕ} → k ≡ refusal later → k ≡ 0 → ran_call c z w work t budget ≡ tile_call c z w work t budget
      unfolding tile_call tile_questions
      tile_ran = late_passes later (ran_call c z w work t budget) no a

      pub tile_answers : t ≤ total (cut_of c z)
          → tile_call c z w work t budget ≡ cond (leb (z.rows * z.depth + z.depth * z.cols) (length work)) (ran_call c z w work t budget) (tile_call_of (tile_refused 11 t) (w D) work)
      unfolding tile_call tile_questions room_question done_question
      tile_answers h =
          hangs later (ran_call c z w work t budget) no a (leb (z.rows * z.depth + z.depth * z.cols) (length work)) 11 (omega arith)
          (rw (le-leb t (total (cut_of c z)) h))

  -- a state question: the same of 12 and 13
  module _ (t h i j : ℕ) where
    abbrev later_state : List Question
    later_state = done_question (cut_of c z) t ++ index_question (cut_of c z) h i j

    pub state_early : {k : ℕ} → k ≡ refusal (accept_questions c z w) → (k ≡ 0 → ⊥) → state_refused k ≡ state_call c z w t h i j
    unfolding state_call state_questions
    state_early = early later_state (is (state_at (cut_of c z) t h i j)) state_refused

    module _ (a : refusal (accept_questions c z w) ≡ 0) where
      pub state_late : {k : ℕ} → k ≡ refusal later_state → (k ≡ 0 → ⊥) → state_refused k ≡ state_call c z w t h i j
      unfolding state_call state_questions
      state_late = late_refuses later_state (is (state_at (cut_of c z) t h i j)) state_refused a

      pub state_found : {k : ℕ} → k ≡ refusal later_state → k ≡ 0 → is (state_at (cut_of c z) t h i j) ≡ state_call c z w t h i j
      unfolding state_call state_questions
      state_found = late_passes later_state (is (state_at (cut_of c z) t h i j)) state_refused a

      pub state_answers : t ≤ total (cut_of c z)
          → state_call c z w t h i j ≡ cond (ltb h (cut_of c z).H && (ltb i (cut_of c z).M && ltb j (cut_of c z).N)) (is (state_at (cut_of c z) t h i j)) (state_refused 13)
      unfolding state_call state_questions done_question index_question
      state_answers b =
          hangs later_state (is (state_at (cut_of c z) t h i j)) state_refused a (ltb h (cut_of c z).H && (ltb i (cut_of c z).M && ltb j (cut_of c z).N)) 13 (omega arith)
          (rw (le-leb t (total (cut_of c z)) b))

-- a tile call that ran was accepted
module _ (c : Contraction) (z : Sizes) (w : Slices) (work : List ℕ) (t budget : ℕ) {r : ℕ} {full : Bool} {ds ws : List ℕ}
    (e : tile_call_of (ran r full) ds ws ≡ tile_call c z w work t budget) where
  abbrev refused : ℕ
  refused = refusal (tile_questions c z w work t)

  all_passed : (refused ≡ 0) × (tile_call_of (ran r full) ds ws ≡ ran_call c z w work t budget)
  unfolding tile_call
  all_passed = go (eqb refused 0) (eqb-true refused 0) e
    where
      go : (x : Bool) → (x ≡ true → refused ≡ 0) → tile_call_of (ran r full) ds ws ≡ cond x (ran_call c z w work t budget) (tile_call_of (tile_refused refused t) (w D) work)
          → (refused ≡ 0) × (tile_call_of (ran r full) ds ws ≡ ran_call c z w work t budget)
      go true zero f = (zero refl, f)
      go false zero f = let two : ran r full ≡ tile_refused refused t = ap (λ (x : TileCall). x.answer) f in let no : ◌≡◌ {A = ℕ} 0 1 = cc in absurd (omega arith)

  pub ran_accepted : Accepted c z w
  unfolding tile_questions
  ran_accepted =
      record { passed = (refusal_both (accept_questions c z w) (room_question z (length work) ++ done_question (cut_of c z) t) (numbered c z w) all_passed.0).0 }
