-- `few_rows` meets its contract. The invariant: where a column is left, `at` is the place of column c, and D's words are those that c columns leave, their sums taken
-- from where the rows' sums stand. These are the tile's.
use Rattle.std.proofs.Common.{◌≡◌, ℕ, ◌+◌, ◌*◌, ◌<◌, ◌≤◌, List, refl, ◌∙◌, le_trans, le_refl, mul-le-mul_left, arith}
use Rattle.words.specs.Loops.{each}
use Rattle.words.proofs.Loops.{each_ext, each_next}
use Rattle.words.proofs.Lanes.{lane_inside}
use Rattle.limits.specs.Limits.{block_limit}
use Rattle.block.specs.Block.{Step}
use Rattle.block.specs.Places.{place_of}
use Rattle.block.proofs.Steps.{reaches}
use Rattle.kernel.specs.KernelNeeds.{RowSummable}
use Rattle.accumulate.specs.declared.accumulate.Factors.{Factors}
use Rattle.accumulate.specs.Added.{rows_added}
use Rattle.columns.specs.declared.column_stores.Packing.{Packing}
use Rattle.columns.specs.Stored.{column_stored, tile_sum}
use Rattle.few_rows.specs.FewSums.{FewSums, ColumnTaken, FewMultipliable}
use Rattle.few_rows.proofs.few.few_rows.Invariants.{stores}
use Rattle.few_rows.proofs.few.few_rows.Goals as goal

module _ {from : ℕ} {rows : List ℕ} {m : ℕ} {columns : List ℕ} {n : ℕ} {step : Step} {p : Packing} {len size : ℕ} (able : FewMultipliable from rows m columns n step p len size) where
  few_columns : n ≤ block_limit
  few_columns = le_trans able.column.fits able.column.narrow

  -- the sums of each row can be formed
  row_summable : (r : ℕ) → r < m → RowSummable p.rows (p.rows * p.depth) p.cols n r p.filled size
  row_summable r h =
      record {
        fits = able.column.fits;
        few = few_columns;
        right = omega (arith, mul-le-mul_left p.cols able.lanes, able.room);
        left = record { each = λ d l. omega (arith, lane_inside p.rows l able.lanes (le_refl (p.rows * p.depth)), able.row.fits, able.room) };
      }

-- they are the tile's
stores_are : (work : List ℕ) (p : Packing) (f : Factors) (from : ℕ) (columns rows : List ℕ) (m n : ℕ) (few d : List ℕ) → FewSums m n (tile_sum work p) few
    → each n (stores f from columns rows m few) d ≡ each n (column_stored work p f from columns rows m) d
stores_are work p f from columns rows m n few d s = each_ext n (λ c h xs. each_ext m (λ r k ys. rw (s.each r c k h)) xs) d

-- a turn: the column's sums were taken to the front
taken : (f : Factors) (from at : ℕ) (columns rows : List ℕ) (m c : ℕ) (few : List ℕ) {old sums e : List ℕ} (d : List ℕ) → m ≤ 4 → at ≡ place_of from columns c → ColumnTaken c few old sums
    → e ≡ rows_added m f sums at rows d → e ≡ stores f from columns rows m few c d
taken f from at columns rows m c few d h a k q = q ∙ each_ext m (λ r b xs. rw (k.each r (omega (arith, b)), a)) d

pub loop-c-init : goal.loop-c-init
unfolding each
loop-c-init c = (refl, refl, λ h. refl, refl)

pub loop-c-preserved : goal.loop-c-preserved
loop-c-preserved c =
    let a = c.args in
    let t = a.t.now in
    let rows = t.rows.now in
    let columns = t.columns.now in
    let l = c.loop-c in
    let h : l.c < columns.count = omega arith in
    let at = l.invariant.2 h in
    let few = c.sums_of_rows-few.result in
    let k = c.take_column.ensures in
    let r = c.store_few in (
      r.auto.d ∙ l.invariant.0,
      k.len ∙ l.invariant.1,
      λ i. reaches t.from columns.offsets _ c.requires.stepped (few_columns c.requires) l.c (l.c + 1) refl i at c.next_place-at.ensures,
      each_next (stores a.f t.from columns.offsets rows.offsets rows.count few) l.c a.d.now l.invariant.3
          (taken a.f t.from l.at columns.offsets rows.offsets rows.count l.c few l.d c.requires.few at k r.ensures),
    )

pub returns : goal.returns
returns c =
    let a = c.args in
    let t = a.t.now in
    let rows = t.rows.now in
    let columns = t.columns.now in
    let l = c.loop-c in
    let e : l.c ≡ columns.count = omega arith in
    rw e at l.invariant.3 ∙ stores_are a.work.now a.p a.f t.from columns.offsets rows.offsets rows.count columns.count _ a.d.now c.sums_of_rows-few.ensures
