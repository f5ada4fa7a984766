-- `set_rows` meets its contract. The invariant: the rows before i are those of their labels, and `gone` has how far these labels go. A turn sets one row more:
-- the strides of its label less that.
-- Assumes nothing.
use Rattle.std.proofs.Common.{◌≡◌, ℕ, ◌+◌, ◌-◌, ◌*◌, ◌^◌, ◌<◌, ◌≤◌, List, [], ◌∷◌, map, length, get_or, take, set, sym, refl, ap, ◌∙◌, add-one, below_more, arith, get_or-set_other, get_or-set_same}
use Rattle.std.proofs.lemmas.List.{get_or-map, get_or-take, length-map, length-take-le}
use Rattle.words.specs.Words.{word, word_of}
use Rattle.contraction.specs.declared.contraction.Operand.{Operand}
use Rattle.groups.specs.Groups.{Label}
use Rattle.groups.specs.Held.{as_label, no_dim}
use Rattle.offsets.specs.declared.offsets.Offsets.{Offsets}
use Rattle.offsets.specs.Offsets.{words_in, Words}
use Rattle.odometer.specs.declared.odometer.Row.{Row}
use Rattle.odometer.specs.Carried.{before, stride_at}
use Rattle.odometer.specs.Odometer.{no_row, last_in, move_in, Tabled}
use Rattle.odometer.proofs.Carried.{before_next}
use Rattle.odometer.proofs.odometer.set_rows.Invariants.{Begun}
use Rattle.odometer.proofs.odometer.set_rows.Goals as goal

nothing : (o : Operand) (g : List Label) → word 64 (before o g 0) ≡ 0
nothing o [] = refl
nothing o (l ∷ g) = refl

begun_none : (g : List Label) (rows : List Row) {gone : Offsets} → Words gone (λ o. 0) → Begun g 0 rows gone
begun_none g rows w =
    record {
      last = λ k h. absurd (omega arith);
      moves = λ k h. absurd (omega arith);
      words = λ o. w.each o ∙ sym (nothing o g);
    }

-- a row more
module _ (g : List Label) (i : ℕ) (l : Label) {rows : List Row} {gone step moves along next : Offsets} {last wide : ℕ} (b : Begun g i rows gone) (h : i < length g)
    (here : get_or g i l ≡ l) (room : i < length rows) (steps : Words step (λ o. 1 * word_of 64 (l.stride o))) (value : last ≡ l.extent - 1) (same : wide ≡ last)
    (moved : Words moves (λ o. words_in step o + (2 ^ 64 - words_in gone o)))
    (goes : Words along (λ o. last * word_of 64 (l.stride o))) (plus : Words next (λ o. words_in gone o + words_in along o)) where
  stride_is : (o : Operand) → stride_at o g i ≡ word_of 64 (l.stride o)
  stride_is o = get_or-map (λ l. word_of 64 (l.stride o)) g i l 0 h ∙ ap (λ (l : Label). word_of 64 (l.stride o)) here

  extent_is : get_or (map (λ l. l.extent) g) i 0 ≡ l.extent
  extent_is = get_or-map (λ l. l.extent) g i l 0 h ∙ ap (λ (l : Label). l.extent) here

  abbrev row : Row
  row = record { last = wide; moves = moves }

  row_here : get_or (set rows i row) i no_row ≡ row
  row_here = get_or-set_same rows i row no_row room

  row_before : (k : ℕ) → k < i → get_or (set rows i row) k no_row ≡ get_or rows k no_row
  row_before k m = get_or-set_other rows i k row no_row (λ e. omega arith)

  begun_next : Begun g (i + 1) (set rows i row) next
  begun_next =
      record {
        last = below_more _ i (λ k m. rw (last_in, row_before k m) (b.last k m)) (rw (last_in, row_here, extent_is) (same ∙ value));
        moves = below_more _ i (λ k m o. rw (move_in, row_before k m) (b.moves k m o)) (λ o. rw (move_in, row_here, moved.each o, steps.each o, b.words o, stride_is o) (omega arith));
        words = λ o. rw (add-one, plus.each o, b.words o, goes.each o, value, before_next o g i h, extent_is, stride_is o) (omega arith);
      }

-- all rows are set
tabled : (g : List Label) (n : ℕ) {rows : List Row} {gone : Offsets} → n ≡ length g → n ≤ length rows → Begun g n rows gone → Tabled g (take n rows)
tabled g n {rows} e h b =
    record {
      rows = length-take-le n rows h ∙ e;
      last = λ i l. let m : i < n = omega arith in rw (last_in, get_or-take n rows i no_row m) (b.last i m);
      moves = λ i l o. let m : i < n = omega arith in rw (move_in, get_or-take n rows i no_row m) (b.moves i m o);
    }

pub loop-i-init : goal.loop-i-init
loop-i-init c = begun_none _ _ c.none-gone.ensures

pub loop-i-preserved : goal.loop-i-preserved
loop-i-preserved c =
    let i = c.loop-i.i in
    let xs = c.args.labels.now in
    let h : i < length (map as_label xs) = simp length-map (omega arith) in
    begun_next (map as_label xs) i (as_label (get_or xs i no_dim)) c.loop-i.invariant h (get_or-map as_label xs i no_dim (as_label (get_or xs i no_dim)) (omega arith)) (omega arith)
    c.along.ensures c.last_value-last.ensures c.from.ensures c.minus-moves.ensures
    c.along-in-loop-i.ensures c.plus-gone.ensures

pub returns : goal.returns
returns c =
    let n = length c.args.labels.now in
    let e : c.loop-i.i ≡ n = omega arith in
    tabled (map as_label c.args.labels.now) n (sym (length-map c.args.labels.now as_label)) (omega arith) (rw e at c.loop-i.invariant)
