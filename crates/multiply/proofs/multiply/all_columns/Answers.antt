-- `all_columns` meets its contract. The invariant: where a column is left, `at` is the place of column c, and D's words are those that c turns leave. A turn stores the next
-- eight columns, or four, or one. The measure is how many columns are left.
use Rattle.std.proofs.Common.{◌≡◌, ℕ, ◌+◌, ◌-◌, ◌<◌, ◌≤◌, true, ◌&&◌, leb, List, sym, refl, ap, ◌∙◌, arith, lit<, leb-true}
use Rattle.words.specs.Loops.{each}
use Rattle.words.proofs.Loops.{each_next, each_add}
use Rattle.words.proofs.Sums.{both_true}
use Rattle.columns.specs.LineStores.{lines_stored}
use Rattle.columns.proofs.Stores.{next_column, column_stored_lem}
use Rattle.multiply.proofs.multiply.all_columns.Goals as goal

-- n turns more
turn_more : (n : ℕ) (body : ℕ → List ℕ → List ℕ) (c : ℕ) (d₀ : List ℕ) {d e : List ℕ} → d ≡ each c body d₀ → e ≡ each n (λ q. body (c + q)) d → e ≡ each (c + n) body d₀
turn_more n body c d₀ i j = j ∙ ap (each n (λ q. body (c + q))) i ∙ sym (each_add c n body d₀)

-- n columns are left where the test says so
many_left : (n rows count c : ℕ) → 0 < n → leb 5 rows && leb n (count - c) ≡ true → c + n ≤ count
many_left n rows count c some h =
    let l : n ≤ count - c = leb-true n (count - c) (both_true (leb 5 rows) (leb n (count - c)) h).1 in
    omega arith

pub loop-c-init : goal.loop-c-init
unfolding each
loop-c-init c = (omega arith, refl, λ h. refl, refl)

pub loop-c-preserved-then-rows-count : goal.loop-c-preserved-then-rows-count
loop-c-preserved-then-rows-count c =
    let a = c.args in
    let t = a.t.now in
    let l = c.loop-c in
    let r = c.next_eight-at in
    (many_left 8 t.rows.now.count t.columns.now.count l.c (lit< tt) c.if-rows-count.true, r.auto.d ∙ l.invariant.1, r.ensures.1, turn_more 8 (lines_stored a.work.now a.p a.f t) l.c a.d.now l.invariant.3 r.ensures.0)

pub loop-c-preserved-then-rows-count-2 : goal.loop-c-preserved-then-rows-count-2
loop-c-preserved-then-rows-count-2 c =
    let a = c.args in
    let t = a.t.now in
    let l = c.loop-c in
    let r = c.next_four-at in
    (many_left 4 t.rows.now.count t.columns.now.count l.c (lit< tt) c.if-rows-count-2.true, r.auto.d ∙ l.invariant.1, r.ensures.1, turn_more 4 (lines_stored a.work.now a.p a.f t) l.c a.d.now l.invariant.3 r.ensures.0)

pub loop-c-preserved : goal.loop-c-preserved
loop-c-preserved c =
    let a = c.args in
    let t = a.t.now in
    let rows = t.rows.now in
    let columns = t.columns.now in
    let l = c.loop-c in
    let r = c.store_one-at in
    let h : l.c < columns.count = omega arith in
    let at = l.invariant.2 h in
    let e = r.ensures.0 ∙ column_stored_lem a.work.now a.p a.f t.from columns.offsets rows.offsets rows.count l.c l.d refl at c.column-sums.ensures in (
      omega arith,
      r.auto.d ∙ l.invariant.1,
      λ i. next_column c.requires l.c (l.c + 1) refl i at r.ensures.1,
      each_next (lines_stored a.work.now a.p a.f t) l.c a.d.now l.invariant.3 e,
    )
