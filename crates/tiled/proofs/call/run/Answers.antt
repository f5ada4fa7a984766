-- `run` meets its contract: where a question refuses, nothing was written; where all pass, the grid's cut is the contraction's, and the tiles
-- that run leave what its setting says.
-- Assumes nothing.
use mathlib.Core.Path.{◌≡◌, refl, sym, ap, ◌∙◌}
use mathlib.Core.Bool.{Bool, true, false, true≢false}
use mathlib.Core.List.{List, ◌++◌}
use Prim.Native.Nat.{ℕ, ◌+◌, ◌-◌, ◌*◌, ◌≤◌, min}
use native.Mathlib.Nat.{mul_comm}
use native.Mathlib.Omega.{arith}
use lib.Dec.{eqb}
use lib.ListN.{length}
use borrow.Author.Tests.{leb-true}
use denote.Ref.{Bor}
use Rattle.std.specs.Prelude.{Option, is_some, Result, IsErrAnd}
use Rattle.std.specs.Bool.{then_some}
use Rattle.refusals.specs.declared.refusal.Refusal.{Refusal}
use Rattle.refusals.specs.Numbers.{number}
use Rattle.refusals.proofs.Numbers.{not_0, errs}
use Rattle.words.proofs.Tabulate.{length_tabulate}
use Rattle.contraction.specs.declared.contraction.Contraction.{Contraction}
use Rattle.contraction.specs.Operands.{four, named, tensors}
use Rattle.contraction.specs.declared.contraction.Operand.TheVariants.{A, B, C, D}
use Rattle.meaning.specs.Meaning.{Slices, lengths_in}
use Rattle.tensor_answers.specs.Asking.{refusal}
use Rattle.questions.specs.Questions.{layout_questions}
use Rattle.tensor_answers.proofs.Refusal.{passed}
use Rattle.plan.specs.declared.plan.Plan.{Plan}
use Rattle.plan.specs.Plan.{Planned}
use Rattle.tiles.specs.declared.grid.Sizes.{Sizes}
use Rattle.tiles.specs.declared.grid.Grid.{Grid}
use Rattle.tiles.specs.Cut.{Cut, total}
use Rattle.tiles.specs.Grid.{cut_in}
use Rattle.tiles.specs.Setting.{Setting, walk, tiles_from}
use Rattle.tiles.proofs.Visits.{tiles_below}
use Rattle.tile_blocks.specs.ContractionInTiles.{cut_of, setting}
use Rattle.tile_blocks.specs.Planned.{GridOf, Clear, read_in, plan_setting}
use Rattle.tile_questions.specs.TileQuestions.{size_question, room_question, done_question}
use Rattle.phases.specs.Phases.{words_of_c}
use Rattle.tiling.specs.Work.{packed_last, work_after}
use Rattle.answers.specs.declared.tile_answer.Ran.{Ran}
use Rattle.answers.specs.TileAnswer.{ran, tile_refused, tile_answer, tile_call_of}
use Rattle.tiled.specs.TileCall.{ran_call, tile_call}
use Rattle.accept.proofs.AcceptQuestions.{asked, accepted}
use Rattle.accept.proofs.Accepted.{none_refused, grid_cut}
use Rattle.accept.proofs.Soundness.{clear}
use Rattle.tiled.proofs.TileAnswered.{tile_early, tile_late, tile_ran}
use Rattle.tiled.proofs.Agrees.{walk_agrees, work_agrees}
use Rattle.tiled.proofs.call.run.Goals as goal

-- the words of C are lent where it is named; else nothing of them is read
module _ (lent : Bor (List ℕ)) where
  lent_clear : (named : Bool) {p : Plan} {G : Cut} {a b d : ℕ} → Clear p G named a b (length lent.now) d
      → Clear p G (is_some (then_some named lent)) a b (length (words_of_c (then_some named lent))) d
  lent_clear true k = k
  lent_clear false k = record { in_side = k.in_side; in_c = λ e. absurd (true≢false (sym e)); places = k.places }

  lent_setting : (named : Bool) (p : Plan) (G : Cut) (alpha beta : ℕ) (a b : List ℕ)
      → plan_setting p G (is_some (then_some named lent)) alpha beta a b (words_of_c (then_some named lent)) ≡ plan_setting p G named alpha beta a b lent.now
  unfolding plan_setting
  lent_setting true p G alpha beta a b = refl
  lent_setting false p G alpha beta a b = refl

tiles_counted : (t n : ℕ) → length (tiles_from t n) ≡ n
unfolding tiles_from
tiles_counted t n = length_tabulate n (λ k. t + k)

-- n is the number that `accepted` answered, k that of `tile_refusal`
module _ (c : Contraction) (z : Sizes) (w : Slices) {n : ℕ} (e : n ≡ refusal (layout_questions (tensors c) (lengths_in c w) ++ size_question z)) (y : n ≡ 0)
    (p : Plan) (q : Planned (tensors c) p) (g : Grid) (o : GridOf p g × (g.sizes ≡ z)) (work : List ℕ) (t : ℕ)
    {k : ℕ} (r : k ≡ refusal (room_question g.sizes (length work) ++ done_question (cut_in g) t)) where
  cut : cut_in g ≡ cut_of c z
  cut = grid_cut c z w e y p q g o

  -- questions 11 and 12 are asked of the grid's sizes and cut, which are the contraction's
  late : k ≡ refusal (room_question z (length work) ++ done_question (cut_of c z) t)
  late =
      r ∙ ap (λ (s : Sizes). refusal (room_question s (length work) ++ done_question (cut_in g) t)) o.1
      ∙ ap (λ (G : Cut). refusal (room_question z (length work) ++ done_question G t)) cut

  late_no : (budget : ℕ) → (k ≡ 0 → ⊥) → tile_call_of (tile_refused k t) (w D) work ≡ tile_call c z w work t budget
  late_no budget = tile_late c z w work t budget (none_refused c z w e y) late

  -- where they pass
  module _ (x : k ≡ 0) where
    room_and_count : (g.sizes.rows * g.sizes.depth + g.sizes.depth * g.sizes.cols ≤ length work) × (t ≤ total (cut_in g))
    unfolding room_question done_question
    room_and_count =
        let all = passed (room_question g.sizes (length work) ++ done_question (cut_in g) t) tt (sym r ∙ x) in
        (leb-true _ _ all.0, leb-true _ _ all.1.0)

    t_below : t ≤ g.total
    t_below = rw o.0.counted.total room_and_count.1

    -- what `run_tiles` asks for a count of tiles, and what it leaves
    module _ (budget count : ℕ) (m : count ≡ min budget (g.total - t)) (lent : Bor (List ℕ)) (words_c : lent.now ≡ w C)
        {taken : Option (Bor (List ℕ))} (is : taken ≡ then_some (named c) lent) where
      in_total : t + count ≤ total (cut_in g)
      in_total = omega (arith, m, t_below, o.0.counted.total)

      run_asks : GridOf p g × (t + count ≤ total (cut_in g)) × Clear p (cut_in g) (is_some taken) (length (w A)) (length (w B)) (length (words_of_c taken)) (length (w D))
          × (g.sizes.rows * g.sizes.depth + g.sizes.cols * g.sizes.depth ≤ length work)
      run_asks = (
        o.0,
        in_total,
        rw (is, cut)
            (lent_clear lent (named c)
            (rw words_c (clear c z w (accepted c z w (none_refused c z w e y)).0 (accepted c z w (none_refused c z w e y)).1 p q))),
        rw (mul_comm g.sizes.cols g.sizes.depth) room_and_count.0,
      )

      all_ran : {r : ℕ} {d' work' : List ℕ} → r ≡ t + length (tiles_from t count)
          → d' ≡ walk (plan_setting p (cut_in g) (is_some taken) c.alpha c.beta (w A) (w B) (words_of_c taken)) (tiles_from t count) (w D)
          → work' ≡ packed_last (cut_in g) (read_in p (w A) (w B)) (tiles_from t count) work
          → tile_call_of (ran r (eqb r g.total)) d' work' ≡ tile_call c z w work t budget
      unfolding ran_call
      all_ran {r} {d'} {work'} er ed ew =
          let ten = none_refused c z w e y in
          let ok = (accepted c z w ten).0 in
          let below = tiles_below (cut_of c z) t count (rw (sym cut) in_total) in
          let whole : g.total ≡ total (cut_of c z) = o.0.counted.total ∙ ap total cut in
          let done : r ≡ t + count = er ∙ ap (λ (i : ℕ). t + i) (tiles_counted t count) in
          let words : d' ≡ walk (setting c z w) (tiles_from t count) (w D) =
          ed ∙ ap (λ (x : Option (Bor (List ℕ))). walk (plan_setting p (cut_in g) (is_some x) c.alpha c.beta (w A) (w B) (words_of_c x)) (tiles_from t count) (w D)) is
          ∙ ap (λ (s : Setting). walk s (tiles_from t count) (w D)) (lent_setting lent (named c) p (cut_in g) c.alpha c.beta (w A) (w B))
          ∙ ap (λ (l : List ℕ). walk (plan_setting p (cut_in g) (named c) c.alpha c.beta (w A) (w B) l) (tiles_from t count) (w D)) words_c
          ∙ ap (λ (G : Cut). walk (plan_setting p G (named c) c.alpha c.beta (w A) (w B) (w C)) (tiles_from t count) (w D)) cut ∙ walk_agrees c z w ok p q (tiles_from t count) below (w D) in
          let packs : work' ≡ work_after c z w (tiles_from t count) work =
          ew ∙ ap (λ (G : Cut). packed_last G (read_in p (w A) (w B)) (tiles_from t count) work) cut ∙ work_agrees c z w ok p q (tiles_from t count) below work in
          rw (done, words, packs, m, whole) (tile_ran c z w work t budget ten late x)

-- what a `?` hands on is answered with the count as given
handed : (t : ℕ) (d work : List ℕ) (e : Refusal) (r : Result Ran Refusal) → IsErrAnd r (λ y. y ≡ e)
    → tile_call_of (tile_answer t r) d work ≡ tile_call_of (tile_refused (number e) t) d work
handed t d work e r h = ap (λ (x : Result Ran Refusal). tile_call_of (tile_answer t x) d work) (errs r h)

pub returns-in_err-lists : goal.returns-in_err-lists
returns-in_err-lists c =
    let x = c.args in
    let w = four c.args.a.now c.args.b.now c.args.c.now c.args.d.now in
    handed x.done x.d.now x.work.now c.in_err-lists.field-0.0 c.from_residual.result c.from_residual.ensures.1
    ∙ tile_early x.k x.z w x.work.now x.done x.budget (asked x.k x.z w c.in_err-lists.ensures.number) (not_0 c.in_err-lists.field-0.0)

pub returns-in_err-tile_refusal : goal.returns-in_err-tile_refusal
returns-in_err-tile_refusal c =
    let r = c.in_ok-lists in
    let y = c.from_lists-x in
    let x = c.args in
    handed x.done x.d.now x.work.now c.in_err-tile_refusal.field-0.0 c.from_residual-in_err-tile_refusal.result c.from_residual-in_err-tile_refusal.ensures.1
    ∙ late_no x.k x.z (four c.args.a.now c.args.b.now c.args.c.now c.args.d.now) r.ensures.number refl
    y.result.plan y.ensures.plan y.result.grid y.ensures.grid x.work.now x.done
    c.in_err-tile_refusal.ensures x.budget (not_0 c.in_err-tile_refusal.field-0.0)

pub overflow_sub-left : goal.overflow_sub-left
overflow_sub-left c =
    let r = c.in_ok-lists in
    let y = c.from_lists-x in
    let x = c.args in
    t_below x.k x.z (four c.args.a.now c.args.b.now c.args.c.now c.args.d.now) r.ensures.number refl
    y.result.plan y.ensures.plan y.result.grid y.ensures.grid x.work.now x.done
    c.in_ok-tile_refusal.ensures refl

pub run_tiles-t-requires : goal.run_tiles-t-requires
run_tiles-t-requires c =
    let r = c.in_ok-lists in
    let y = c.from_lists-x in
    let x = c.args in
    run_asks x.k x.z (four c.args.a.now c.args.b.now c.args.c.now c.args.d.now) r.ensures.number refl
    y.result.plan y.ensures.plan y.result.grid y.ensures.grid x.work.now x.done
    c.in_ok-tile_refusal.ensures refl x.budget _ c.min-count.ensures x.c refl (c.then_some.ensures ∙ ap (λ (b : Bool). then_some b x.c) c.is_some.ensures)

pub returns : goal.returns
returns c =
    let r = c.in_ok-lists in
    let y = c.from_lists-x in
    let x = c.args in
    all_ran x.k x.z (four c.args.a.now c.args.b.now c.args.c.now c.args.d.now) r.ensures.number refl
    y.result.plan y.ensures.plan y.result.grid y.ensures.grid x.work.now x.done
    c.in_ok-tile_refusal.ensures refl x.budget _ c.min-count.ensures x.c refl (c.then_some.ensures ∙ ap (λ (b : Bool). then_some b x.c) c.is_some.ensures)
    c.run_tiles-t.ensures.0 c.run_tiles-t.ensures.1 c.run_tiles-t.ensures.2
