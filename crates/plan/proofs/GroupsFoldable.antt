-- The labels of a contraction that was accepted can be folded: every stride is small, and the product over the letters that pass any test, where an
-- extent 0 counts as 1, is at most the product over all.
-- Assumes nothing.
use mathlib.Core.Path.{◌≡◌, sym, ap, ◌∙◌, fun_ext}
use mathlib.Core.Bool.{Bool, ◌&&◌}
use mathlib.Core.List.{List, [], ◌∷◌, ◌++◌, append_assoc}
use Prim.Native.Nat.{ℕ, ◌≤◌, max}
use native.Mathlib.Nat.{le-max_left}
use native.Mathlib.Decide.{ℕ_discrete}
use native.Mathlib.Omega.{arith}
use borrow.Author.Tests.{leb-true}
use lib.Dec.{leb}
use lib.ListN.{length, length-append}
use Rattle.words.specs.Sums.{product}
use Rattle.words.specs.Lists.{keep, member}
use Rattle.words.proofs.Lists.{T_true, all_of, all_imp, all_map}
use Rattle.words.proofs.Sums.{product_keep, product_map, and_split, every_all}
use Rattle.words.proofs.Tabulate.{length_first_of}
use Rattle.limits.specs.Limits.{rank_limit, base_limit, slice_limit, product_limit, labels_limit}
use Rattle.layout.specs.declared.layout.Axis.{Axis}
use Rattle.layout.specs.declared.layout.Layout.{Layout}
use Rattle.layout.specs.Layout.{no_axis, axes, letters_of}
use Rattle.validity.specs.TensorQuestions.{rank_fits, strides_valid, sizes_valid}
use Rattle.labels.specs.Labels.{extent_of, labels}
use Rattle.labels.specs.LetterSets.{has}
use Rattle.labels.proofs.Facts.{strides_bound}
use Rattle.points.specs.LabelQuestions.{letters_among, letters_same, points, points_fit}
use Rattle.contraction.specs.declared.contraction.Contraction.{Contraction}
use Rattle.contraction.specs.declared.operands.Operands.{Operands}
use Rattle.contraction.specs.Operands.{Shape, tensors, shape, together}
use Rattle.contraction.specs.declared.contraction.Operand.{Operand}
use Rattle.contraction.specs.declared.contraction.Operand.TheVariants.{A, B, C, D}
use Rattle.contraction.specs.TensorAxes.{shape_of, Ready}
use Rattle.contraction.proofs.Again.{labels_among, labels_short}
use Rattle.questions.proofs.Ready.{AllPassed}
use Rattle.groups.specs.Groups.{Label, Group, in_group, labels_where, group, outputs, label}
use Rattle.groups.specs.Foldable.{points_in, Small, Foldable}
use Rattle.folding.specs.Fold.{add_to, fold}
use Rattle.plan.specs.Plan.{AllFoldable}
use Rattle.folding.proofs.Folding.{Folding, fold_start, fold_end, fold_skip, fold_add}

module _ (t : Operand → Layout) (n : Operand → ℕ) (p : AllPassed t n) where
  rank : (o : Operand) → length (axes (t o)) ≤ rank_limit
  unfolding axes rank_fits
  rank o = omega (arith, leb-true (t o).letter_count rank_limit (p.each.ranks o), length_first_of (t o).letter_count no_axis (t o).axes)

  small : (c : ℕ) → Small (label (shape t) c)
  unfolding sizes_valid
  small c =
      record {
        strides =
            λ o. omega (
              arith,
              rank o,
              strides_bound (axes (t o)) (and_split (strides_valid (axes (t o))) (leb (t o).base base_limit && leb (n o) slice_limit) (rw (p.each.sizes o) tt)).0 c,
            );
      }

  pub where_foldable : (q : ℕ → Bool) → Foldable (labels_where (shape t) q)
  unfolding points points_fit
  where_foldable q =
      let s = shape t in
      let cs = labels (together s) in
      let e : points_in (labels_where s q) ≡ product (λ c. max 1 (extent_of c (together s))) (keep q cs) = product_map (λ (l : Label). max 1 l.extent) (label s) (keep q cs) in
      record {
        strides = all_map Small (label s) (keep q cs) (all_of small (keep q cs));
        points = omega (arith, leb-true (points (together s)) product_limit p.fit, e, product_keep (λ c. max 1 (extent_of c (together s))) (λ c. le-max_left 1 _) q cs);
      }

  -- C has D's letters, and each tensor at most 8
  few_labels : length (labels (together (shape t))) ≤ labels_limit
  unfolding together letters_same
  few_labels =
      let d = axes (t D) in
      let a = axes (t A) in
      let b = axes (t B) in
      let c = axes (t C) in
      let among = all_imp (λ (x : Axis). T_true (member x.letter (letters_of d))) c
      (every_all (λ x. member x.letter (letters_of d)) c (and_split (letters_among c d) (letters_among d c) (rw p.same tt)).0) in
      let e : labels (d ++ (a ++ (b ++ c))) ≡ labels (d ++ (a ++ b)) =
      ap labels (ap (λ (xs : List Axis). d ++ xs) (sym (append_assoc a b c)) ∙ sym (append_assoc d (a ++ b) c)) ∙ labels_among d (a ++ b) c among in
      omega (arith, ap length e, labels_short (d ++ (a ++ b)), length-append d (a ++ b), length-append a b, rank A, rank B, rank D)

  pub all_foldable : AllFoldable (shape t)
  all_foldable = record { labels = where_foldable; few = few_labels }

  pub group_foldable : (g : Group) → Foldable (group (shape t) g)
  unfolding group
  group_foldable g = where_foldable (in_group (shape t) g)

  pub outputs_foldable : Foldable (outputs (shape t))
  unfolding outputs
  outputs_foldable = where_foldable _

-- what is folded can be folded again
pub fold_foldable : (g : List Label) → Foldable g → Foldable (fold g)
fold_foldable g h = go g [] (fold_start g h)
  where
    go : (rest done : List Label) → Folding done rest g → Foldable (fold g)
    go [] done f = rw (← fold_end done g f) f.foldable
    go (l ∷ rest) done f = step (ℕ_discrete l.extent 1) (λ e. go rest done (fold_skip done rest g l f e)) (λ e. go rest (add_to done l) (fold_add done rest g l f e))
      where
        step : {X : Type 0} → Dec (l.extent ≡ 1) → (l.extent ≡ 1 → X) → ((l.extent ≡ 1 → ⊥) → X) → X
        step (yes e) f g = f e
        step (no e) f g = g e

-- ---- the labels of the letters that a set has

-- the code's lists have the tensors' axes
same_shape : (c : Contraction) (x : Operands) → Ready c x → shape_of x ≡ shape (tensors c)
same_shape c x r = fun_ext r.each

module _ (c : Contraction) (x : Operands) (r : Ready c x) (f : AllFoldable (shape (tensors c))) (set : ℕ) where
  -- what `folded` asks, and what it gives
  pub fold_asks : (length (labels (together (shape_of x))) ≤ labels_limit) × Foldable (labels_where (shape_of x) (has set))
  fold_asks = (rw (same_shape c x r) f.few, rw (same_shape c x r) (f.labels (has set)))

  pub fold_gives : (g : Shape → List Label) → labels_where (shape_of x) (has set) ≡ g (shape_of x) → (ls : List Label)
      → ls ≡ fold (labels_where (shape_of x) (has set)) → ls ≡ fold (g (shape (tensors c)))
  fold_gives g k ls q = q ∙ ap fold k ∙ ap (λ (s : Shape). fold (g s)) (same_shape c x r)
