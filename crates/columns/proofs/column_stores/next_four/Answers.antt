-- `next_four` meets its contract. The columns c, c + 1, c + 2 and c + 3 are stored one after the other, each at the place that the block's step reaches from the one before.
-- Assumes nothing.
use mathlib.Core.Path.{◌≡◌, refl, ap, sym, ◌∙◌}
use mathlib.Core.List.{List}
use Prim.Native.Nat.{ℕ, ◌+◌, ◌*◌}
use native.Mathlib.Nat.{add_assoc, add-zero}
use native.Mathlib.Omega.{arith}
use lib.ListN.{get_or}
use Rattle.words.specs.Loops.{each, put}
use Rattle.block.specs.Places.{place_of}
use Rattle.kernel.specs.Kernel.{column_sum, ColumnSums}
use Rattle.accumulate.specs.declared.accumulate.Factors.{Factors}
use Rattle.accumulate.specs.Added.{added_to}
use Rattle.columns.specs.declared.column_stores.Packing.{Packing}
use Rattle.columns.specs.LineStores.{lines_stored}
use Rattle.columns.specs.Stored.{column_stored}
use Rattle.columns.proofs.Stores.{storable, next_column, column_stored_lem}
use Rattle.columns.proofs.column_stores.next_four.Goals as goal

-- the four stores, one after the other
four_turns : (body : ℕ → List ℕ → List ℕ) {d₀ d₁ d₂ d₃ d₄ : List ℕ} → d₁ ≡ body 0 d₀ → d₂ ≡ body 1 d₁ → d₃ ≡ body 2 d₂ → d₄ ≡ body 3 d₃ → d₄ ≡ each 4 body d₀
unfolding each
four_turns body e₁ e₂ e₃ e₄ = e₄ ∙ ap (body 3) (e₃ ∙ ap (body 2) (e₂ ∙ ap (body 1) e₁))

-- what the store of column c + q leaves
stored : (work : List ℕ) (p : Packing) (f : Factors) (from : ℕ) (columns rows : List ℕ) (count c q at : ℕ) (sums d : List ℕ)
    → at ≡ place_of from columns (c + q) → ColumnSums count (column_sum work p.rows (p.rows * p.depth + c + q) p.cols p.filled) sums
    → each count (λ r. put (added_to f (get_or sums r 0)) (place_of at rows r)) d ≡ column_stored work p f from columns rows count (c + q) d
stored work p f from columns rows count c q at sums d = column_stored_lem work p f from columns rows count (c + q) d (add_assoc (p.rows * p.depth) c q)

pub store_next-at-requires-2 : goal.store_next-at-requires-2
store_next-at-requires-2 c =
    let a = c.args in
    let second = next_column c.requires.2 a.c (a.c + 1) refl (omega arith) c.requires.1 c.store_next-at.ensures.1 in
    storable c.requires.2 (a.c + 1) (omega arith) second c.store_next-at.auto.d

pub store_next-at-requires-3 : goal.store_next-at-requires-3
store_next-at-requires-3 c =
    let a = c.args in
    let second = next_column c.requires.2 a.c (a.c + 1) refl (omega arith) c.requires.1 c.store_next-at.ensures.1 in
    let third = next_column c.requires.2 (a.c + 1) (a.c + 2) (omega arith) (omega arith) second c.store_next-at-2.ensures.1 in
    storable c.requires.2 (a.c + 2) (omega arith) third (c.store_next-at-2.auto.d ∙ c.store_next-at.auto.d)

pub store_next-requires : goal.store_next-requires
store_next-requires c =
    let a = c.args in
    let second = next_column c.requires.2 a.c (a.c + 1) refl (omega arith) c.requires.1 c.store_next-at.ensures.1 in
    let third = next_column c.requires.2 (a.c + 1) (a.c + 2) (omega arith) (omega arith) second c.store_next-at-2.ensures.1 in
    let fourth = next_column c.requires.2 (a.c + 2) (a.c + 3) (omega arith) (omega arith) third c.store_next-at-3.ensures.1 in
    storable c.requires.2 (a.c + 3) (omega arith) fourth (c.store_next-at-3.auto.d ∙ c.store_next-at-2.auto.d ∙ c.store_next-at.auto.d)

pub returns : goal.returns
returns c =
    let a = c.args in
    let t = a.t.now in
    let first : a.at ≡ place_of t.from t.columns.now.offsets (a.c + 0) = c.requires.1 ∙ ap (place_of t.from t.columns.now.offsets) (sym (add-zero a.c)) in
    let second = next_column c.requires.2 a.c (a.c + 1) refl (omega arith) c.requires.1 c.store_next-at.ensures.1 in
    let third = next_column c.requires.2 (a.c + 1) (a.c + 2) (omega arith) (omega arith) second c.store_next-at-2.ensures.1 in
    let fourth = next_column c.requires.2 (a.c + 2) (a.c + 3) (omega arith) (omega arith) third c.store_next-at-3.ensures.1 in
    let sums = c.four_columns-s.ensures in
    let put_at = stored a.work.now a.p a.f t.from t.columns.now.offsets t.rows.now.offsets t.rows.now.count a.c in (
      four_turns (λ q. lines_stored a.work.now a.p a.f t (a.c + q))
          (c.store_next-at.ensures.0 ∙ put_at 0 _ _ a.d.now first sums.first)
          (c.store_next-at-2.ensures.0 ∙ put_at 1 _ _ c.store_next-at.new.d second sums.second)
          (c.store_next-at-3.ensures.0 ∙ put_at 2 _ _ c.store_next-at-2.new.d third sums.third)
          (c.store_next.ensures.0 ∙ put_at 3 _ _ c.store_next-at-3.new.d fourth sums.fourth),
      λ h. next_column c.requires.2 (a.c + 3) (a.c + 4) (omega arith) h fourth c.store_next.ensures.1,
    )
