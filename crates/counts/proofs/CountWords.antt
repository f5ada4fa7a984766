-- The offset of a count of a group as an address word, label after label.
-- Assumes nothing.
use Rattle.std.proofs.Common.{◌≡◌, ℕ, ◌+◌, ◌*◌, ◌/◌, ◌%◌, ◌<◌, List, [], ◌∷◌, map, length, get_or, drop, sym, refl, ap, ◌∙◌, add-zero, add_assoc, zero-add, add-one, drop-cons}
use lib.Seq.{drop-length}
use Rattle.words.specs.Words.{word, word_of}
use Rattle.words.proofs.Modular.{word_word, word_add_left, word_add_right}
use Rattle.contraction.specs.declared.contraction.Operand.{Operand}
use Rattle.groups.specs.declared.groups.Dim.{Dim}
use Rattle.groups.specs.Groups.{Label, size}
use Rattle.groups.specs.Held.{as_label, no_dim}
use Rattle.offsets.specs.Counts.{offset_in}
use Rattle.offsets.proofs.Digits.{pos_left, div_below}

-- in tensor o, count n of all labels: `at` is the offset of the labels done, and a count `rest` of the labels left is still to be added
pub record Partway (o : Operand) (at : ℕ) (left : List Label) (rest : ℕ) (all : List Label) (n : ℕ) : Type 0 where
  pub below : rest < size left
  pub fits : word 64 at ≡ at
  pub total : word 64 (at + offset_in (word_of 64) o left rest) ≡ word 64 (offset_in (word_of 64) o all n)

-- the labels from place i on
abbrev pub labels_from : List Dim → ℕ → List Label
labels_from dims i = map as_label (drop i dims)

module _ (o : Operand) where
  pub offsets_start : {all : List Label} (dims : List Dim) (n : ℕ) → all ≡ map as_label dims → n < size all → Partway o 0 (labels_from dims 0) n all n
  offsets_start dims n e h = record { below = rw e at h; fits = refl; total = rw (e, zero-add) }

  module _ (at : ℕ) (l : Label) (left : List Label) (rest : ℕ) (all : List Label) (n : ℕ) (p : Partway o at (l ∷ left) rest all n) where
    extent_pos : 0 < l.extent
    extent_pos = pos_left l.extent (size left) rest p.below

    offsets_turn : (step next : ℕ) → step ≡ word 64 (rest % l.extent * word_of 64 (l.stride o)) → next ≡ word 64 (at + step) → Partway o next left (rest / l.extent) all n
    offsets_turn step next s t =
        let d = rest % l.extent * word_of 64 (l.stride o) in
        let y = offset_in (word_of 64) o left (rest / l.extent) in
        record {
          below = div_below rest l.extent (size left) p.below;
          fits = rw t (word_word 64 (at + step));
          total =
              ap (λ (z : ℕ). word 64 (z + y)) (t ∙ ap (λ (z : ℕ). word 64 (at + z)) s ∙ word_add_right 64 at d) ∙ word_add_left 64 (at + d) y
              ∙ ap (word 64) (add_assoc at d y) ∙ p.total;
        }

  -- a turn of the loop, at the label of place i
  module _ {all : List Label} (dims : List Dim) (i : ℕ) (h : i < length dims) {at rest n : ℕ} (p : Partway o at (labels_from dims i) rest all n) where
    abbrev l : Label
    l = as_label (get_or dims i no_dim)

    next : Partway o at (l ∷ labels_from dims (i + 1)) rest all n
    next = rw (add-one i) (rw (drop-cons dims i no_dim h) at p)

    pub extent_at : 0 < l.extent
    extent_at = extent_pos at l (labels_from dims (i + 1)) rest all n next

    pub turn : (step to : ℕ) → step ≡ word 64 (rest % l.extent * word_of 64 (l.stride o)) → to ≡ word 64 (at + step)
        → Partway o to (labels_from dims (i + 1)) (rest / l.extent) all n
    turn = offsets_turn at l (labels_from dims (i + 1)) rest all n next

  -- no label is left
  pub offsets_end : {all : List Label} (dims : List Dim) (i : ℕ) {at rest n : ℕ} → i ≡ length dims → Partway o at (labels_from dims i) rest all n
      → at ≡ word 64 (offset_in (word_of 64) o all n)
  offsets_end {all} dims i {at} {rest} {n} z p =
      let q : Partway o at [] rest all n = rw (z, drop-length dims) at p in
      sym q.fits ∙ ap (word 64) (sym (add-zero at)) ∙ q.total
