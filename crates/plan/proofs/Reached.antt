-- Of a contraction that was accepted: the address words that code forms from folded labels are the addresses of entries, each inside its slice.
-- Assumes nothing.
use mathlib.Core.Path.{◌≡◌, refl, sym, ap, ◌∙◌}
use mathlib.Core.Bool.{true, ◌&&◌}
use mathlib.Core.List.{List, [], ◌∷◌}
use Prim.Native.Nat.{ℕ, ◌+◌, ◌*◌, ◌^◌, ◌≤◌, ◌<◌}
use native.Mathlib.Omega.{arith}
use borrow.Author.Tests.{leb-true}
use lib.Dec.{leb}
use lib.IntN.{ℤ}
use Rattle.words.specs.Sums.{All, sum_of}
use Rattle.words.specs.Lists.{member}
use Rattle.words.specs.Words.{word, up, down, word_of}
use Rattle.words.proofs.Lists.{T_true, all_map}
use Rattle.words.proofs.Sums.{and_split}
use Rattle.words.proofs.Modular.{word_add_left}
use Rattle.words.proofs.Whole.{sign}
use Rattle.limits.specs.Limits.{base_limit, slice_limit}
use Rattle.layout.specs.declared.layout.Layout.{Layout}
use Rattle.layout.specs.Layout.{axes, address}
use Rattle.validity.specs.TensorQuestions.{strides_valid, sizes_valid}
use Rattle.entries.specs.Bounds.{Inside}
use Rattle.entries.proofs.Bounds.{inside_every}
use Rattle.contraction.specs.Operands.{shape}
use Rattle.contraction.specs.declared.contraction.Operand.{Operand}
use Rattle.questions.proofs.Ready.{AllPassed}
use Rattle.groups.specs.Groups.{letters, Group, depth, in_group, labels_where, group, outputs, size}
use Rattle.offsets.specs.Counts.{offset_in}
use Rattle.folding.specs.Fold.{fold}
use Rattle.meaning.specs.Index.{at, out_index}
use Rattle.meaning.proofs.EngineIndices.{output_at, depth_at, out_separate, out_covers, term_separate, term_covers}
use Rattle.meaning.proofs.IndexParts.{Part, Separate, Below, covered, at_parts, offsets, parts_in_range, parts_balanced, address_parts}
use Rattle.meaning.proofs.OwnGroups.{groups_of, groups_at, own_group, own_separate, own_cover}
use Rattle.meaning.proofs.Outputs.{in_d}
use Rattle.plan.proofs.GroupsFoldable.{where_foldable}
use Rattle.plan.proofs.Wrapped.{wraps, folded_word}

module _ (t : Operand → Layout) (n : Operand → ℕ) (p : AllPassed t n) where
  -- the offsets of the folded labels at all counts
  abbrev pub folded_offsets : (ℤ → ℕ) → Operand → List Part → ℕ
  folded_offsets part o ps = sum_of (λ q. offset_in part o (fold (labels_where (shape t) q.test)) q.count) ps

  parts_words : (o : Operand) (ps : List Part)
      → folded_offsets (word_of 64) o ps + offsets (shape t) down o ps ≡ offsets (shape t) up o ps + folded_offsets sign o ps * 2 ^ 64
  parts_words o [] = refl
  parts_words o (q ∷ ps) = omega (arith, folded_word o (labels_where (shape t) q.test) q.count (where_foldable t n p q.test), parts_words o ps)

  slice_small : (o : Operand) → n o ≤ slice_limit
  unfolding sizes_valid
  slice_small o =
      leb-true (n o) slice_limit
      (T_true _
      (and_split (leb (t o).base base_limit) (leb (n o) slice_limit)
      (and_split (strides_valid (axes (t o))) (leb (t o).base base_limit && leb (n o) slice_limit) (rw (p.each.sizes o) tt)).1).1)

  -- ---- any parts that cover the letters of a tensor
  module _ (o : Operand) (ps : List Part) (apart : Separate ps) (below : Below (shape t) ps)
      (covers : (c : ℕ) → member c (letters (shape t) o) ≡ true → covered c ps ≡ true) where
    pub parts_inside : Inside (t o) (n o) (at_parts (shape t) ps)
    parts_inside = inside_every (t o) (n o) (rw (p.within o) tt) (at_parts (shape t) ps) (parts_in_range (shape t) (rw p.agree tt) o ps below covers)

    pub reached_parts : word 64 ((t o).base + folded_offsets (word_of 64) o ps) ≡ address (t o) (at_parts (shape t) ps)
    reached_parts =
        let s = shape t in
        let bound : address (t o) (at_parts s ps) < 2 ^ 64 = omega (arith, parts_inside.1, slice_small o) in
        wraps (t o).base (offsets s up o ps) (offsets s down o ps) (folded_offsets (word_of 64) o ps) (folded_offsets sign o ps) (parts_words o ps)
        (omega (arith, parts_inside.0, parts_balanced s o ps apart)) (rw (← address_parts t o ps apart) bound)
        ∙ sym (address_parts t o ps apart)

  -- ---- the groups of a tensor at their counts
  module _ (o : Operand) (m : Group → ℕ) (h : All (λ g. m g < size (group (shape t) g)) (groups_of o)) where
    abbrev own : List Part
    own = groups_at (shape t) m (groups_of o)

    own_below : Below (shape t) own
    unfolding group
    own_below = all_map (λ q. q.count < size (labels_where (shape t) q.test)) (λ g. record { test = in_group (shape t) g; count = m g }) (groups_of o) h

    covers : (c : ℕ) → member c (letters (shape t) o) ≡ true → covered c own ≡ true
    covers = own_cover (shape t) m o (own_group (shape t) p.same o)

    pub index_inside : Inside (t o) (n o) (at_parts (shape t) own)
    index_inside = parts_inside o own (own_separate (shape t) m o) own_below covers

    abbrev group_offset : Group → ℕ
    group_offset g = offset_in (word_of 64) o (fold (group (shape t) g)) (m g)

    group_offsets : (gs : List Group) → sum_of group_offset gs ≡ folded_offsets (word_of 64) o (groups_at (shape t) m gs)
    unfolding group
    group_offsets [] = refl
    group_offsets (g ∷ gs) = ap (λ (x : ℕ). group_offset g + x) (group_offsets gs)

    pub reached_index : word 64 ((t o).base + sum_of group_offset (groups_of o)) ≡ address (t o) (at_parts (shape t) own)
    reached_index = rw (group_offsets (groups_of o)) (reached_parts o own (own_separate (shape t) m o) own_below covers)

  -- ---- an output count, alone in D and C, and with a depth count in every tensor
  module _ (m : ℕ) (h : m < size (outputs (shape t))) where
    -- in a tensor that has only letters of D
    module _ (o : Operand) (only : (c : ℕ) → member c (letters (shape t) o) ≡ true → in_d (shape t) c ≡ true) where
      pub out_inside : Inside (t o) (n o) (out_index (shape t) m)
      unfolding outputs out_index
      out_inside = parts_inside o (output_at (shape t) m ∷ []) (out_separate (shape t) m) (h, tt) (λ c e. out_covers (shape t) m c (only c e))

      pub reached_out : word 64 ((t o).base + offset_in (word_of 64) o (fold (outputs (shape t))) m) ≡ address (t o) (out_index (shape t) m)
      unfolding outputs out_index
      reached_out =
          ap (word 64) (omega arith)
          ∙ reached_parts o (output_at (shape t) m ∷ []) (out_separate (shape t) m) (h, tt) (λ c e. out_covers (shape t) m c (only c e))

    module _ (k : ℕ) (i : k < size (group (shape t) depth)) (o : Operand) where
      pub term_inside : Inside (t o) (n o) (at (group (shape t) depth) k (out_index (shape t) m))
      unfolding outputs out_index group
      term_inside = parts_inside o (depth_at (shape t) k ∷ output_at (shape t) m ∷ []) (term_separate (shape t) m k) (i, (h, tt)) (λ c e. term_covers (shape t) m k c)

      pub reached_term : word 64 (word 64 ((t o).base + offset_in (word_of 64) o (fold (outputs (shape t))) m) + offset_in (word_of 64) o (fold (group (shape t) depth)) k)
          ≡ address (t o) (at (group (shape t) depth) k (out_index (shape t) m))
      unfolding outputs out_index group
      reached_term =
          word_add_left 64 ((t o).base + offset_in (word_of 64) o (fold (outputs (shape t))) m) (offset_in (word_of 64) o (fold (group (shape t) depth)) k)
          ∙ ap (word 64) (omega arith)
          ∙ reached_parts o (depth_at (shape t) k ∷ output_at (shape t) m ∷ []) (term_separate (shape t) m k) (i, (h, tt)) (λ c e. term_covers (shape t) m k c)
