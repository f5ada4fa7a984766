-- `sums_of_rows` meets its contract. The invariant: the sums of the first r rows stand at their places. A turn puts those of row r.
use Rattle.std.proofs.Common.{◌≡◌, ℕ, ◌+◌, ◌*◌, ◌<◌, List, get_or, ◌∙◌, arith}
use native.Mathlib.Decide.{ℕ_discrete}
use Rattle.words.specs.Words.{word}
use Rattle.kernel.specs.Kernel.{column_sum, ColumnSums}
use Rattle.columns.specs.declared.column_stores.Packing.{Packing}
use Rattle.columns.specs.Stored.{tile_sum}
use Rattle.few_rows.specs.FewSums.{FewSums, RowPut}
use Rattle.few_rows.proofs.few.sums_of_rows.Goals as goal

-- one row more
turn : (r n : ℕ) (f : ℕ → ℕ → ℕ) {sums old new : List ℕ} → r < 4 → FewSums r n f old → ColumnSums n (f r) sums → RowPut r n sums old new → FewSums (r + 1) n f new
turn r n f {sums} {old} {new} few s k q = record { each = λ i c h b. go i c h b (ℕ_discrete i r) }
  where
    go : (i c : ℕ) → i < r + 1 → c < n → Dec (i ≡ r) → get_or new (4 * c + i) 0 ≡ word 32 (f i c)
    go i c h b (yes e) = rw e (q.put c b ∙ k.each c b)
    go i c h b (no g) = q.others i c (omega (arith, h, few)) g ∙ s.each i c (omega (arith, h, g)) b

-- what the kernel forms are the tile's sums
sums_are : (work : List ℕ) (p : Packing) (r n : ℕ) {sums : List ℕ} → ColumnSums n (λ c. column_sum work p.rows (p.rows * p.depth + c) p.cols p.filled r) sums
    → ColumnSums n (tile_sum work p r) sums
unfolding tile_sum
sums_are work p r n s = s

pub loop-r-preserved : goal.loop-r-preserved
loop-r-preserved c =
    let l = c.loop-r in
    let h : l.r < c.args.m = omega arith in
    let q = c.put_row.ensures in
    (q.len ∙ l.invariant.0, turn l.r c.args.n (tile_sum c.args.work.now c.args.p) (omega (arith, c.requires.0)) l.invariant.1 (sums_are c.args.work.now c.args.p l.r c.args.n c.row_lanes-sums.ensures) q)
