-- The address words that the tile code forms from a plan are the addresses of entries, each inside its slice. To reduce a part of a sum of words first
-- changes nothing, folding keeps offsets and sizes, and a place adds the counts of just the groups that its tensor has.
-- Assumes nothing.
use mathlib.Core.Path.{◌≡◌, refl, sym, ap, ◌∙◌}
use mathlib.Core.Bool.{true}
use mathlib.Core.List.{List, [], ◌∷◌}
use Prim.Native.Nat.{ℕ, ◌+◌, ◌*◌, ◌≤◌, ◌<◌, max}
use native.Mathlib.Nat.{mul-le-mul}
use native.Mathlib.Omega.{arith}
use borrow.Author.Tests.{leb-true}
use Rattle.words.specs.Sums.{All, sum_of}
use Rattle.words.specs.Words.{word, word_of}
use Rattle.words.proofs.Sums.{sum_of_ext}
use Rattle.words.proofs.Modular.{word_add_left, word_add_right}
use Rattle.limits.specs.Limits.{product_limit}
use Rattle.layout.specs.Layout.{address}
use Rattle.points.specs.LabelQuestions.{points, points_fit}
use Rattle.contraction.specs.declared.contraction.Contraction.{Contraction}
use Rattle.contraction.specs.Operands.{tensors, together}
use Rattle.contraction.specs.declared.contraction.Operand.{Operand}
use Rattle.contraction.specs.declared.contraction.Operand.TheVariants.{A, B, D}
use Rattle.questions.proofs.Ready.{AllPassed}
use Rattle.groups.specs.Groups.{Label, Group, batch, row, column, depth, group, size}
use Rattle.groups.specs.Held.{labels_in}
use Rattle.groups.specs.Foldable.{points_in}
use Rattle.groups.proofs.Points.{size_counted}
use Rattle.offsets.specs.Counts.{offset_in}
use Rattle.offsets.specs.Offsets.{words_in}
use Rattle.folding.proofs.FoldKeeps.{fold_size}
use Rattle.meaning.specs.Index.{index}
use Rattle.meaning.specs.Meaning.{shape_in}
use Rattle.meaning.proofs.IndexParts.{at_parts}
use Rattle.meaning.proofs.OwnGroups.{group_counts, groups_of, groups_at}
use Rattle.plan.specs.declared.plan.Plan.{Plan}
use Rattle.plan.specs.Plan.{Planned, planned}
use Rattle.plan.proofs.GroupsFoldable.{group_foldable, fold_foldable}
use Rattle.plan.proofs.GroupSizes.{group_points}
use Rattle.plan.proofs.Reached.{index_inside, reached_index}
use Rattle.tiles.specs.declared.grid.Sizes.{Sizes}
use Rattle.tile_blocks.specs.Side.{Side, left, right, tensor_on, group_on}
use Rattle.tile_blocks.specs.ContractionInTiles.{cut_of, output_index, address_at}
use Rattle.tile_blocks.specs.Planned.{place_in, place_of_output, plan_cut, PlanFits}
use Rattle.tile_questions.specs.TileQuestions.{sizes_fit}
use Rattle.tile_questions.proofs.TileSizes.{sizes_limited}

-- a sum of four words, reduced at every step
steps : (x a b d : ℕ) → word 64 (word 64 (word 64 (x + word 64 a) + word 64 b) + word 64 d) ≡ word 64 (x + a + b + d)
steps x a b d =
    rw (word_add_right 64 x a, word_add_right 64 (word 64 (x + a)) b, word_add_left 64 (x + a) b, word_add_right 64 (word 64 (x + a + b)) d) (word_add_left 64 (x + a + b) d)

-- the same where the third was not reduced before it was added
steps_whole : (x a b d : ℕ) → word 64 (word 64 (word 64 (x + word 64 a) + b) + word 64 d) ≡ word 64 (x + a + b + d)
steps_whole x a b d = ap (λ (y : ℕ). word 64 (y + word 64 d)) (sym (word_add_right 64 (word 64 (x + word 64 a)) b)) ∙ steps x a b d

module _ (c : Contraction) (n : Operand → ℕ) (ok : AllPassed (tensors c) n) (p : Plan) (q : Planned (tensors c) p) where
  -- ---- sizes
  pub plan_size : (g : Group) → size (labels_in (planned p g)) ≡ size (group (shape_in c) g)
  plan_size g = ap (λ (l : List Label). size l) (q.groups g) ∙ fold_size (group (shape_in c) g)

  pub plan_cut_lem : (z : Sizes) → plan_cut p z ≡ cut_of c z
  plan_cut_lem z = rw (plan_size batch, plan_size row, plan_size column, plan_size depth)

  points_fit_lem : max 1 (size (labels_in (planned p batch))) * max 1 (size (labels_in (planned p row))) * max 1 (size (labels_in (planned p column)))
      * max 1 (size (labels_in (planned p depth))) ≤ product_limit
  unfolding points_fit
  points_fit_lem =
      omega (
        arith,
        mul-le-mul (mul-le-mul (mul-le-mul (counted batch) (counted row)) (counted column)) (counted depth),
        group_points (shape_in c),
        leb-true (points (together (shape_in c))) product_limit ok.fit,
      )
    where
      counted : (g : Group) → max 1 (size (labels_in (planned p g))) ≤ points_in (group (shape_in c) g)
      counted g = rw (plan_size g) (size_counted (group (shape_in c) g))

  pub plan_fits : (z : Sizes) → sizes_fit z ≡ true → PlanFits p z
  plan_fits z f =
      let s = sizes_limited z f in
      record {
        fits =
            record {
              points = points_fit_lem;
              rows_pos = s.rows.0;
              cols_pos = s.cols.0;
              depth_pos = s.depth.0;
              rows_few = s.rows.1;
              cols_few = s.cols.1;
              depth_few = s.depth.1;
            };
        foldable = λ g. rw (q.groups g) (fold_foldable (group (shape_in c) g) (group_foldable (tensors c) n ok g));
        few = q.few;
      }

  -- ---- places

  -- an address word is that of a tensor's entry at an index, and inside its slice
  pub record Entry (o : Operand) (x : ℕ) (ρ : ℕ → ℕ) : Type 0 where
    pub is : x ≡ address (tensors c o) ρ
    pub inside : x < n o

  -- the base and the offsets of counts of a tensor's groups, added in any order
  reached : (o : Operand) (m : Group → ℕ) → All (λ g. m g < size (group (shape_in c) g)) (groups_of o) → {x y : ℕ} → y ≡ word 64 x
      → x ≡ words_in p.base o + sum_of (λ g. offset_in (word_of 64) o (labels_in (planned p g)) (m g)) (groups_of o)
      → Entry o y (at_parts (shape_in c) (groups_at (shape_in c) m (groups_of o)))
  reached o m below {x} {y} w e =
      let folded = sum_of_ext (λ g. ap (λ (l : List Label). offset_in (word_of 64) o l (m g)) (q.groups g)) (groups_of o) in
      let is : y ≡ address (tensors c o) (at_parts (shape_in c) (groups_at (shape_in c) m (groups_of o))) =
      w ∙ ap (word 64) (rw (q.bases o, folded) at e) ∙ reached_index (tensors c) n ok o m below in
      record { is = is; inside = rw is (index_inside (tensors c) n ok o m below).1 }

  pub side_entry : (s : Side) (h m k : ℕ) → h < size (group (shape_in c) batch) → m < size (group (shape_in c) (group_on s)) → k < size (group (shape_in c) depth)
      → Entry (tensor_on s) (place_in p s h m k) (index (shape_in c) ((depth, k) ∷ (batch, h) ∷ (group_on s, m) ∷ []))
  unfolding place_in index group
  side_entry left h m k bh bm bk = reached A (group_counts h m m k) (bk, (bh, (bm, tt))) (steps_whole _ _ _ _) (omega arith)
  side_entry right h m k bh bm bk = reached B (group_counts h m m k) (bk, (bh, (bm, tt))) (steps_whole _ _ _ _) (omega arith)

  -- of C and of D, which have the same groups
  pub out_entry : (o : Operand) → groups_of o ≡ groups_of D → (h i j : ℕ)
      → h < size (group (shape_in c) batch) → i < size (group (shape_in c) row) → j < size (group (shape_in c) column) → Entry o (place_of_output p o h i j) (output_index c h i j)
  unfolding place_of_output index group
  out_entry o e h i j bh bi bj =
      let off : Group → ℕ → ℕ = λ g n. offset_in (word_of 64) o (labels_in (planned p g)) n in
      rw e at (reached o (group_counts h i j 0) (rw e (bh, (bi, (bj, tt)))) {x = words_in p.base o + off batch h + off column j + off row i} (steps _ _ _ _) (rw e (omega arith)))

  pub reaches_d : (h i j : ℕ) → h < size (group (shape_in c) batch) → i < size (group (shape_in c) row) → j < size (group (shape_in c) column)
      → place_of_output p D h i j ≡ address_at c h i j
  unfolding address_at
  reaches_d h i j bh bi bj = (out_entry D refl h i j bh bi bj).is
