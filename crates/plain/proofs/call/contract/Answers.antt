-- `contract` meets its contract: where a question refuses, nothing was written; where all pass, the plan's groups are the contraction's, folded, and
-- filling D along them leaves the result.
-- Assumes nothing.
use mathlib.Core.Path.{◌≡◌, sym, ap, ◌∙◌}
use mathlib.Core.Bool.{true}
use mathlib.Core.List.{List}
use Prim.Native.Nat.{ℕ, ◌≤◌}
use Rattle.std.proofs.Common.{refl, rules, Option, Some, None, is_some}
use Rattle.std.specs.Option.{option_and}
use Rattle.std.specs.Borrow.{Bor}
use lib.ListN.{length}
use Rattle.words.specs.Loops.{each}
use Rattle.limits.specs.Limits.{labels_limit}
use Rattle.layout.specs.declared.layout.Layout.{Layout}
use Rattle.labels.specs.Labels.{labels}
use Rattle.labels.specs.LetterSets.{has}
use Rattle.contraction.specs.declared.contraction.Contraction.{Contraction}
use Rattle.contraction.specs.declared.operands.Operands.{Operands}
use Rattle.contraction.specs.Operands.{four, named, tensors, together}
use Rattle.contraction.specs.declared.contraction.Operand.TheVariants.{A, B, C, D}
use Rattle.contraction.specs.TensorAxes.{shape_of, Ready}
use Rattle.questions.proofs.Ready.{AllPassed, accepted_parts}
use Rattle.groups.specs.declared.groups.Group.{Group}
use Rattle.groups.specs.declared.groups.Sets.{Sets}
use Rattle.groups.specs.Groups.{depth, group, labels_where, outputs, size}
use Rattle.groups.specs.Held.{labels_in}
use Rattle.groups.specs.Sets.{Grouped}
use Rattle.groups.specs.Foldable.{Foldable}
use Rattle.groups.proofs.Sets.{kept_output}
use Rattle.offsets.specs.declared.offsets.Offsets.{Offsets}
use Rattle.offsets.specs.Offsets.{words_in}
use Rattle.meaning.specs.Meaning.{Slices, lengths_in, first_no, result}
use Rattle.folding.specs.Fold.{fold}
use Rattle.plan.specs.Plan.{Bases, OutputPlanned}
use Rattle.plan.proofs.GroupsFoldable.{all_foldable, group_foldable, outputs_foldable, fold_foldable, fold_asks, fold_gives}
use Rattle.sums.specs.declared.walk.Walk.{Walk}
use Rattle.sums.specs.Walk.{places, over, Walks}
use Rattle.output_words.specs.StartWords.{words_of}
use Rattle.output_run.specs.FilledOutput.{filled}
use Rattle.next_runs.specs.NextRuns.{Fillable}
use Rattle.direct.proofs.DirectResult.{clear, distinct, filled_result}
use Rattle.answers.specs.PlainAnswer.{plain_done, plain_call_of}
use Rattle.plain.proofs.PlainAnswered.{call_refused, call_done}
use Rattle.plain.proofs.call.contract.Goals as goal

-- the words that the loops have for C: C's where the contraction names it
handed : (o : Option Layout) (c : Bor (List ℕ)) {x : Option (Bor (List ℕ))} → x ≡ option_and o (Some c)
    → (is_some x ≡ is_some o) × (is_some o ≡ true → words_of x ≡ c.now)
handed None c e = rw e (refl, λ t. cc)
handed (Some l) c e = rw e (refl, λ t. refl)

module _ (k : Contraction) (w : Slices) (e : first_no k w ≡ 0) where
  passed : AllPassed (tensors k) (lengths_in k w)
  passed = accepted_parts (tensors k) (lengths_in k w) e

  -- what `fold_into` asks of a set of letters
  module _ (x : Operands) (r : Ready k x) where
    fold_needs : (set : ℕ) → (length (labels (together (shape_of x))) ≤ labels_limit) × Foldable (labels_where (shape_of x) (has set))
    fold_needs set = fold_asks k x r (all_foldable (tensors k) (lengths_in k w) passed) set

    -- what it gives of D's letters and of the depth group's
    walked : (s : Sets) → Grouped (shape_of x) s → (output deep : Group) (base : Offsets)
        → (labels_in output ≡ fold (labels_where (shape_of x) (has x.d.letters.set))) × (output.count ≤ labels_limit)
        → (labels_in deep ≡ fold (labels_where (shape_of x) (has s.depth))) × (deep.count ≤ labels_limit)
        → Bases (tensors k) base → OutputPlanned (tensors k) output deep base
    walked s h output deep base o d b =
        let gives = fold_gives k x r (all_foldable (tensors k) (lengths_in k w) passed) in
        record {
          output = gives x.d.letters.set outputs (kept_output x x.d.letters x.d.lettered.spells) (labels_in output) o.0;
          few_output = o.1;
          depth = gives s.depth (λ s. group s depth) (h.labels depth) (labels_in deep) d.0;
          few_depth = d.1;
          bases = b.bases;
        }

    -- what `walk_of` asks of the two groups
    output_walks : (output : Group) → (labels_in output ≡ fold (labels_where (shape_of x) (has x.d.letters.set))) × (output.count ≤ labels_limit)
        → (output.count ≤ labels_limit) × Foldable (labels_in output)
    output_walks output o =
        let gives = fold_gives k x r (all_foldable (tensors k) (lengths_in k w) passed) in
        (o.1, rw (gives x.d.letters.set outputs (kept_output x x.d.letters x.d.lettered.spells) (labels_in output) o.0) (fold_foldable _ (outputs_foldable (tensors k) _ passed)))

    depth_walks : (s : Sets) → Grouped (shape_of x) s → (deep : Group) → (labels_in deep ≡ fold (labels_where (shape_of x) (has s.depth))) × (deep.count ≤ labels_limit)
        → (deep.count ≤ labels_limit) × Foldable (labels_in deep)
    depth_walks s h deep d =
        let gives = fold_gives k x r (all_foldable (tensors k) (lengths_in k w) passed) in
        (d.1, rw (gives s.depth (λ s. group s depth) (h.labels depth) (labels_in deep) d.0) (fold_foldable _ (group_foldable (tensors k) _ passed depth)))

  module _ (output deep : Group) (base : Offsets) (q : OutputPlanned (tensors k) output deep base) where
    -- what `fill` asks, and what it leaves
    module _ (outer inner : Walk) (ko : Walks (labels_in output) outer) (ki : Walks (labels_in deep) inner) (x : Option (Bor (List ℕ)))
        (has_c : (is_some x ≡ named k) × (named k ≡ true → words_of x ≡ w C)) where
      fill_asks : Fillable (is_some x) base outer inner (w A) (w B) (words_of x) (length (w D))
      fill_asks =
          record {
            outputs = rw ko.labels ko;
            depths = rw ki.labels ki;
            clear = rw (has_c.0, ko.labels, q.output, ki.labels, q.depth) (clear k w passed (words_in base) q.bases (words_of x) has_c.1);
            distinct = rw (ko.labels, q.output) (distinct k w passed (words_in base) q.bases (words_of x) has_c.1);
          }

      fill_leaves : each (size (over outer)) (λ m. filled (is_some x) k.alpha k.beta (over inner) (w A) (w B) (words_of x) (places base (over outer) m)) (w D) ≡ result k w
      fill_leaves = rw (has_c.0, ko.labels, q.output, ki.labels, q.depth) (filled_result k w passed (words_in base) q.bases (words_of x) has_c.1)

pub returns-in_err-lists : goal.returns-in_err-lists
returns-in_err-lists c =
    let w = four c.args.a.now c.args.b.now c.args.c.now c.args.d.now in
    call_refused c.args.k w c.in_err-lists.field-0.0 c.from_residual.result c.from_residual.ensures.1 (search rules)

pub fold_into-requires : goal.fold_into-requires
fold_into-requires c =
    let k = c.args.k in
    let w = four c.args.a.now c.args.b.now c.args.c.now c.args.d.now in
    let e : first_no k w ≡ 0 = sym c.in_ok-lists.ensures.number in
    let needs = fold_needs k w e _ c.in_ok-lists.ensures.lists _ in
    (c.none-output.ensures.1, needs.0, needs.1)

pub fold_into-requires-2 : goal.fold_into-requires-2
fold_into-requires-2 c =
    let k = c.args.k in
    let w = four c.args.a.now c.args.b.now c.args.c.now c.args.d.now in
    let e : first_no k w ≡ 0 = sym c.in_ok-lists.ensures.number in
    let needs = fold_needs k w e _ c.in_ok-lists.ensures.lists _ in
    (c.none-depth.ensures.1, needs.0, needs.1)

pub walk_of-requires : goal.walk_of-requires
walk_of-requires c =
    let k = c.args.k in
    let w = four c.args.a.now c.args.b.now c.args.c.now c.args.d.now in
    let e : first_no k w ≡ 0 = sym c.in_ok-lists.ensures.number in
    output_walks k w e _ c.in_ok-lists.ensures.lists c.fold_into.new.out c.fold_into.ensures

pub walk_of-requires-2 : goal.walk_of-requires-2
walk_of-requires-2 c =
    let k = c.args.k in
    let w = four c.args.a.now c.args.b.now c.args.c.now c.args.d.now in
    let e : first_no k w ≡ 0 = sym c.in_ok-lists.ensures.number in
    depth_walks k w e _ c.in_ok-lists.ensures.lists c.groups_of-sets.result c.groups_of-sets.ensures c.fold_into-2.new.out c.fold_into-2.ensures

pub fill-requires : goal.fill-requires
fill-requires c =
    let k = c.args.k in
    let w = four c.args.a.now c.args.b.now c.args.c.now c.args.d.now in
    let e : first_no k w ≡ 0 = sym c.in_ok-lists.ensures.number in
    let q =
    walked k w e _ c.in_ok-lists.ensures.lists c.groups_of-sets.result c.groups_of-sets.ensures c.fold_into.new.out c.fold_into-2.new.out
    c.base_of.result c.fold_into.ensures c.fold_into-2.ensures c.base_of.ensures in
    fill_asks k w e _ _ _ q c.walk_of.result c.walk_of-2.result c.walk_of.ensures c.walk_of-2.ensures c.and.result (handed k.c c.args.c c.and.ensures)

pub returns : goal.returns
returns c =
    let k = c.args.k in
    let w = four c.args.a.now c.args.b.now c.args.c.now c.args.d.now in
    let e : first_no k w ≡ 0 = sym c.in_ok-lists.ensures.number in
    let q =
    walked k w e _ c.in_ok-lists.ensures.lists c.groups_of-sets.result c.groups_of-sets.ensures c.fold_into.new.out c.fold_into-2.new.out
    c.base_of.result c.fold_into.ensures c.fold_into-2.ensures c.base_of.ensures in
    ap (plain_call_of plain_done) (c.fill.ensures ∙ fill_leaves k w e _ _ _ q c.walk_of.result c.walk_of-2.result c.walk_of.ensures c.walk_of-2.ensures c.and.result (handed k.c c.args.c c.and.ensures))
    ∙ call_done k w e
