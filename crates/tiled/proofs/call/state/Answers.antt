-- `state` meets its contract: where a question refuses, its number is the call's; where all pass, the grid's cut is the contraction's, and so is
-- the state.
-- Assumes nothing.
use mathlib.Core.Path.{◌≡◌, refl, sym, ap, ◌∙◌}
use mathlib.Core.Bool.{◌&&◌}
use mathlib.Core.List.{◌++◌}
use Prim.Native.Nat.{ℕ, ◌<◌}
use lib.Dec.{ltb, ltb→lt}
use Rattle.refusals.proofs.Numbers.{not_0, errs}
use Rattle.words.proofs.Sums.{and_split}
use Rattle.contraction.specs.declared.contraction.Contraction.{Contraction}
use Rattle.contraction.specs.Operands.{four, tensors}
use Rattle.meaning.specs.Meaning.{Slices, lengths_in}
use Rattle.tensor_answers.specs.Asking.{refusal}
use Rattle.questions.specs.Questions.{layout_questions}
use Rattle.tensor_answers.proofs.Refusal.{passed}
use Rattle.plan.specs.declared.plan.Plan.{Plan}
use Rattle.plan.specs.Plan.{Planned}
use Rattle.tiles.specs.declared.grid.Sizes.{Sizes}
use Rattle.tiles.specs.declared.grid.Grid.{Grid}
use Rattle.tiles.specs.Cut.{Cut}
use Rattle.tiles.specs.Grid.{cut_in}
use Rattle.tiles.specs.Progress.{State, state_at}
use Rattle.tile_blocks.specs.ContractionInTiles.{cut_of}
use Rattle.tile_blocks.specs.Planned.{GridOf}
use Rattle.tile_questions.specs.TileQuestions.{size_question, done_question, index_question}
use Rattle.answers.specs.StateAnswer.{is, state_refused, state_answer}
use Rattle.tiled.specs.TileCall.{state_call}
use Rattle.accept.proofs.AcceptQuestions.{asked}
use Rattle.accept.proofs.Accepted.{none_refused, grid_cut}
use Rattle.tiled.proofs.TileAnswered.{state_early, state_late, state_found}
use Rattle.tiled.proofs.call.state.Goals as goal

-- n is the number that `accepted` answered; questions 12 and 13 are asked of the grid's cut, which is the contraction's
module _ (c : Contraction) (z : Sizes) (w : Slices) {n : ℕ} (e : n ≡ refusal (layout_questions (tensors c) (lengths_in c w) ++ size_question z)) (y : n ≡ 0)
    (p : Plan) (q : Planned (tensors c) p) (g : Grid) (o : GridOf p g × (g.sizes ≡ z)) (t h i j : ℕ)
    {k : ℕ} (r : k ≡ refusal (done_question (cut_in g) t ++ index_question (cut_in g) h i j)) where
  cut : cut_in g ≡ cut_of c z
  cut = grid_cut c z w e y p q g o

  late : k ≡ refusal (done_question (cut_of c z) t ++ index_question (cut_of c z) h i j)
  late = r ∙ ap (λ (G : Cut). refusal (done_question G t ++ index_question G h i j)) cut

  late_no : (k ≡ 0 → ⊥) → state_refused k ≡ state_call c z w t h i j
  late_no = state_late c z w t h i j (none_refused c z w e y) late

  -- what the grid's `state` asks
  index_inside : k ≡ 0 → (h < (cut_in g).H) × (i < (cut_in g).M) × (j < (cut_in g).N)
  unfolding done_question index_question
  index_inside x =
      let G = cut_in g in
      let all = (passed (done_question G t ++ index_question G h i j) tt (sym r ∙ x)).1.0 in
      let bh = and_split (ltb h G.H) (ltb i G.M && ltb j G.N) (rw all tt) in
      let bi = and_split (ltb i G.M) (ltb j G.N) bh.1 in
      (ltb→lt h G.H bh.0, ltb→lt i G.M bi.0, ltb→lt j G.N bi.1)

  found : {s : State} → k ≡ 0 → s ≡ state_at (cut_in g) t h i j → is s ≡ state_call c z w t h i j
  found x f = ap is (f ∙ ap (λ (G : Cut). state_at G t h i j) cut) ∙ state_found c z w t h i j (none_refused c z w e y) late x

pub returns-in_err-lists : goal.returns-in_err-lists
returns-in_err-lists c =
    let x = c.args in
    let w = four c.args.a.now c.args.b.now c.args.c.now c.args.d.now in
    ap state_answer (errs c.from_residual.result c.from_residual.ensures.1)
    ∙ state_early x.k x.z w x.done x.h x.i x.j (asked x.k x.z w c.in_err-lists.ensures.number) (not_0 c.in_err-lists.field-0.0)

pub returns-in_err-state_refusal : goal.returns-in_err-state_refusal
returns-in_err-state_refusal c =
    let r = c.in_ok-lists in
    let y = c.from_lists-x in
    let x = c.args in
    ap state_answer (errs c.from_residual-in_err-state_refusal.result c.from_residual-in_err-state_refusal.ensures.1)
    ∙ late_no x.k x.z (four c.args.a.now c.args.b.now c.args.c.now c.args.d.now) r.ensures.number refl
    y.result.plan y.ensures.plan y.result.grid y.ensures.grid x.done x.h x.i x.j
    c.in_err-state_refusal.ensures (not_0 c.in_err-state_refusal.field-0.0)

pub state-requires : goal.state-requires
state-requires c =
    let r = c.in_ok-lists in
    let y = c.from_lists-x in
    let x = c.args in
    let inside = index_inside x.k x.z (four c.args.a.now c.args.b.now c.args.c.now c.args.d.now) r.ensures.number refl
    y.result.plan y.ensures.plan y.result.grid y.ensures.grid x.done x.h x.i x.j
    c.in_ok-state_refusal.ensures refl in
    (y.ensures.grid.0.counted, inside.0, inside.1, inside.2)

pub returns : goal.returns
returns c =
    let r = c.in_ok-lists in
    let y = c.from_lists-x in
    let x = c.args in
    found x.k x.z (four c.args.a.now c.args.b.now c.args.c.now c.args.d.now) r.ensures.number refl
    y.result.plan y.ensures.plan y.result.grid y.ensures.grid x.done x.h x.i x.j
    c.in_ok-state_refusal.ensures refl c.state.ensures
