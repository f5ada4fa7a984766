-- Of a contraction that was accepted: filling D along the folded groups leaves the result, reads and writes only inside the slices, and
-- writes no place twice. The words that the loops have for C are C's where it is named; else none of them is read.
-- Assumes nothing.
use mathlib.Core.Path.{◌≡◌, refl, sym, ap, ◌∙◌, subst}
use mathlib.Core.Bool.{Bool, true, false, cond}
use mathlib.Core.List.{List}
use mathlib.Core.Logic.{◌≢◌}
use Prim.Native.Nat.{ℕ, zero, suc, ◌≤◌, ◌<◌}
use native.Mathlib.Omega.{arith}
use lib.ListN.{length, get_or, set}
use Rattle.words.specs.Sums.{sum_to}
use Rattle.words.specs.Loops.{each, put, overwrite}
use Rattle.words.proofs.Sums.{sum_to_ext}
use Rattle.words.proofs.Store.{puts_other}
use Rattle.layout.specs.Layout.{address}
use Rattle.contraction.specs.declared.contraction.Contraction.{Contraction}
use Rattle.contraction.specs.Operands.{named, tensors}
use Rattle.contraction.specs.declared.contraction.Operand.{Operand}
use Rattle.contraction.specs.declared.contraction.Operand.TheVariants.{A, B, C, D}
use Rattle.questions.proofs.Ready.{AllPassed}
use Rattle.groups.specs.Groups.{Label, depth, group, outputs, size}
use Rattle.folding.specs.Fold.{fold}
use Rattle.folding.proofs.FoldKeeps.{fold_size}
use Rattle.meaning.specs.Index.{at, out_index}
use Rattle.meaning.specs.Meaning.{Slices, lengths_in, shape_in, start_of, combined, entry, value, result}
use Rattle.meaning.proofs.OwnGroups.{c_in_d}
use Rattle.meaning.proofs.Result.{outputs_apart, term, value_counts}
use Rattle.plan.proofs.Reached.{out_inside, reached_out, term_inside, reached_term}
use Rattle.dots.specs.Dot.{dot}
use Rattle.sums.specs.Walk.{reached, sum_from, Readable}
use Rattle.output_run.specs.FilledOutput.{filled, Clear}
use Rattle.next_runs.specs.NextRuns.{Distinct}

-- words that are C's where it is named give each sum the same start
same_start : (b : Bool) {wc c : List ℕ} (at old : ℕ) → (b ≡ true → wc ≡ c) → start_of b (get_or wc at 0) old ≡ start_of b (get_or c at 0) old
same_start true at old h = ap (λ (ws : List ℕ). get_or ws at 0) (h refl)
same_start false at old h = refl

module _ (c : Contraction) (w : Slices) (p : AllPassed (tensors c) (lengths_in c w)) (base : Operand → ℕ)
    (bases : (o : Operand) → base o ≡ (tensors c o).base) (wc : List ℕ) (named_words : named c ≡ true → wc ≡ w C) where
  -- the folded groups, and the address words of an output count
  abbrev outer : List Label
  outer = fold (outputs (shape_in c))

  abbrev inner : List Label
  inner = fold (group (shape_in c) depth)

  abbrev pub words : ℕ → Operand → ℕ
  words m o = reached o (base o) outer m

  module _ (m : ℕ) (h : m < size (outputs (shape_in c))) where
    word_out : words m D ≡ address (tensors c D) (out_index (shape_in c) m)
    word_out = rw (bases D) (reached_out (tensors c) (lengths_in c w) p m h D (λ x e. e))

    word_start : words m C ≡ address (tensors c C) (out_index (shape_in c) m)
    word_start = rw (bases C) (reached_out (tensors c) (lengths_in c w) p m h C (c_in_d (shape_in c) p.same))

    -- where C is named, its word is in its slice
    start_inside : named c ≡ true → words m C < length wc
    start_inside e =
        rw (named_words e, word_start) (subst (λ (b : Bool). address (tensors c C) (out_index (shape_in c) m) < cond b (length (w C)) (length (w D))) e
        (out_inside (tensors c) (lengths_in c w) p m h C (c_in_d (shape_in c) p.same)).1)

    module _ (k : ℕ) (i : k < size (group (shape_in c) depth)) (o : Operand) where
      word_term : reached o (words m o) inner k ≡ address (tensors c o) (at (group (shape_in c) depth) k (out_index (shape_in c) m))
      word_term = rw (bases o) (reached_term (tensors c) (lengths_in c w) p m h k i o)

      within : reached o (words m o) inner k < lengths_in c w o
      within = rw word_term (term_inside (tensors c) (lengths_in c w) p m h k i o).1

      read : get_or (w o) (reached o (words m o) inner k) 0 ≡ entry c w o (at (group (shape_in c) depth) k (out_index (shape_in c) m))
      unfolding entry
      read = ap (λ (x : ℕ). get_or (w o) x 0) word_term

    reads : Readable inner (w A) (w B) (words m)
    reads =
        record {
          in_a = record { each = λ k i. within k (rw (fold_size (group (shape_in c) depth)) at i) A };
          in_b = record { each = λ k i. within k (rw (fold_size (group (shape_in c) depth)) at i) B };
        }

    -- what is put is the value
    sum_is : sum_from inner (w A) (w B) (words m) ≡ sum_to (size (group (shape_in c) depth)) (term c w (out_index (shape_in c) m))
    unfolding sum_from dot
    sum_is = rw (fold_size (group (shape_in c) depth)) (sum_to_ext (size (group (shape_in c) depth)) (λ k i. rw (read k i A, read k i B)))

    value_is : (old : ℕ) → old ≡ entry c w D (out_index (shape_in c) m)
        → combined c.alpha c.beta (sum_from inner (w A) (w B) (words m)) (start_of (named c) (get_or wc (words m C) 0) old)
        ≡ value c w (out_index (shape_in c) m)
    unfolding entry
    value_is old e = rw (same_start (named c) (words m C) old named_words, sum_is, word_start, e) (sym (value_counts c w (out_index (shape_in c) m)))

  pub clear : Clear (named c) (size outer) words inner (w A) (w B) wc (length (w D))
  clear =
      record {
        reads = λ m h. reads m (rw (fold_size (outputs (shape_in c))) at h);
        starts = λ e. record { each = λ m h. start_inside m (rw (fold_size (outputs (shape_in c))) at h) e };
        writes =
            record {
              each = λ m h. let i : m < size (outputs (shape_in c)) = rw (fold_size (outputs (shape_in c))) at h in
                  rw (word_out m i) (out_inside (tensors c) (lengths_in c w) p m i D (λ x e. e)).1;
            };
      }

  place : ℕ → ℕ
  place m = address (tensors c D) (out_index (shape_in c) m)

  put_value : ℕ → ℕ
  put_value m = value c w (out_index (shape_in c) m)

  -- no two outputs have the same place
  places_apart : (i k : ℕ) → i < size (outputs (shape_in c)) → k < size (outputs (shape_in c)) → place i ≡ place k → i ≡ k
  unfolding place
  places_apart = outputs_apart (tensors c) (length (w D)) (rw p.agree tt) (rw (p.within D) tt) (rw p.distinct tt)

  pub distinct : Distinct (size outer) (λ m. words m D)
  unfolding place
  distinct =
      record {
        each = λ i k h l e.
            let first : i < size (outputs (shape_in c)) = rw (fold_size (outputs (shape_in c))) at h in
            let second : k < size (outputs (shape_in c)) = rw (fold_size (outputs (shape_in c))) at l in
            places_apart i k first second (sym (word_out i first) ∙ e ∙ word_out k second);
      }

  -- a place that is still to come holds its old word
  unfilled : (m : ℕ) → m < size (outputs (shape_in c)) → get_or (overwrite m place put_value (w D)) (place m) 0 ≡ entry c w D (out_index (shape_in c) m)
  unfolding place put_value entry
  unfilled m h = puts_other place (λ k was. put_value k) m (place m) (w D) other
    where
      other : (k : ℕ) → k < m → place k ≢ place m
      other k i e = let q : k ≡ m = places_apart k m (omega arith) h e in omega (arith, q)

  fills : (m : ℕ) → m ≤ size (outputs (shape_in c)) → each m (λ m. filled (named c) c.alpha c.beta inner (w A) (w B) wc (words m)) (w D) ≡ overwrite m place put_value (w D)
  unfolding each filled put place put_value
  fills zero h = refl
  fills (suc m) h =
      rw (fills m (omega arith), word_out m (omega arith))
      (ap (set (overwrite m place put_value (w D)) (place m)) (value_is m (omega arith) _ (unfilled m (omega arith))))

  pub filled_result : each (size outer) (λ m. filled (named c) c.alpha c.beta inner (w A) (w B) wc (words m)) (w D) ≡ result c w
  unfolding result place put_value
  filled_result = rw (fold_size (outputs (shape_in c))) (fills (size (outputs (shape_in c))) (omega arith))
