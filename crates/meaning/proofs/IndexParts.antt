-- An index made of several lists of labels, each at a count of its own: in range, its address the base and all offsets, and different for different counts.
-- A group of a contraction is one such list, D's labels are another.
-- Assumes nothing.
use mathlib.Core.Path.{◌≡◌, refl, sym, ◌∙◌}
use mathlib.Core.Bool.{Bool, true, false, ◌||◌, true≢false}
use mathlib.Core.List.{List, [], ◌∷◌, map}
use Prim.Native.Nat.{ℕ, ◌+◌, ◌-◌, ◌<◌, zero-le}
use native.Mathlib.Nat.{lt_of_le_of_lt}
use native.Mathlib.Omega.{arith}
use lib.Dec.{T}
use lib.IntN.{ℤ}
use Rattle.words.specs.Sums.{All, sum_of}
use Rattle.words.specs.Lists.{cons_if, keep, member}
use Rattle.words.specs.Words.{up, down}
use Rattle.words.proofs.Lists.{all_map, all_unmap, keep_all}
use Rattle.layout.specs.declared.layout.Layout.{Layout}
use Rattle.layout.specs.Layout.{along, address}
use Rattle.layout.proofs.Address.{along_zero}
use Rattle.labels.specs.Labels.{labels}
use Rattle.points.specs.LabelQuestions.{extents_agree}
use Rattle.entries.specs.Bounds.{InRange}
use Rattle.contraction.specs.Operands.{Shape, shape, together}
use Rattle.contraction.specs.declared.contraction.Operand.{Operand}
use Rattle.groups.specs.Groups.{label, letters, labels_where, size}
use Rattle.offsets.specs.Counts.{offset, offset_in}
use Rattle.meaning.specs.Index.{at}
use Rattle.meaning.proofs.CountAddress.{where_distinct, where_all, where_clear, share, along_where, where_balanced}
use Rattle.meaning.proofs.Index.{at_injective, letter_in_lem, where_lt, in_range}

-- the labels whose letters pass a test, at a count
pub record Part : Type 0 where
  pub test : ℕ → Bool
  pub count : ℕ

-- the part fails the letter
abbrev Misses : ℕ → Part → Type 0
Misses c p = p.test c ≡ false

-- no letter passes the tests of two
abbrev pub Separate : List Part → Type 0
Separate [] = Unit {0}
Separate (p ∷ ps) = ((c : ℕ) → p.test c ≡ true → All (Misses c) ps) × Separate ps

-- does a letter pass the test of one?
abbrev pub covered : ℕ → List Part → Bool
covered c [] = false
covered c (p ∷ ps) = p.test c || covered c ps

-- a letter that all fail passes none
missed : (ps : List Part) (c : ℕ) → All (Misses c) ps → covered c ps ≡ false
missed [] c h = refl
missed (p ∷ ps) c h = rw h.0 (missed ps c h.1)

-- the parts of some tests, each at its count
abbrev pub parts_at : {X : Type 0} → (X → ℕ → Bool) → (X → ℕ) → List X → List Part
parts_at test n xs = map (λ x. record { test = test x; count = n x }) xs

-- of separate parts those that a test keeps are separate
pub kept_separate : {X : Type 0} (test : X → ℕ → Bool) (n : X → ℕ) (q : X → Bool) (xs : List X) → Separate (parts_at test n xs)
    → Separate (parts_at test n (keep q xs))
kept_separate test n q [] h = tt
kept_separate {X} test n q (x ∷ xs) h = go (q x) (kept_separate test n q xs h.1)
  where
    part : X → Part
    part x = record { test = test x; count = n x }

    go : (b : Bool) → Separate (parts_at test n (keep q xs)) → Separate (parts_at test n (cons_if b x (keep q xs)))
    go true r = (λ c e. all_map (Misses c) part (keep q xs) (keep_all (λ x. test x c ≡ false) q xs (all_unmap (Misses c) part xs (h.0 c e))), r)
    go false r = r

-- whatever the counts, each letter of a tensor passes just one of the tests, and other letters none
pub record Splits (s : Shape) (o : Operand) {X : Type 0} (test : X → ℕ → Bool) (xs : List X) : Type 0 where
  pub separate : (n : X → ℕ) → Separate (parts_at test n xs)
  pub covers : (n : X → ℕ) (c : ℕ) → covered c (parts_at test n xs) ≡ member c (letters s o)

module _ (s : Shape) where
  -- the index at all counts
  abbrev pub at_parts : List Part → ℕ → ℕ
  at_parts [] = λ c. 0
  at_parts (p ∷ ps) = at (labels_where s p.test) p.count (at_parts ps)

  -- each count is one of its labels'
  abbrev pub Below : List Part → Type 0
  Below ps = All (λ p. p.count < size (labels_where s p.test)) ps

  -- the offsets of all counts in a tensor
  abbrev pub offsets : (ℤ → ℕ) → Operand → List Part → ℕ
  offsets part o ps = sum_of (λ p. offset_in part o (labels_where s p.test) p.count) ps

  clear : (ps : List Part) (c : ℕ) → All (Misses c) ps → at_parts ps c ≡ 0
  clear [] c h = refl
  clear (p ∷ ps) c h = where_clear s p.test p.count (at_parts ps) c h.0 ∙ clear ps c h.1

  -- ---- in range
  value_lt : (ps : List Part) (c : ℕ) → Below ps → member c (labels (together s)) ≡ true → covered c ps ≡ true → at_parts ps c < (label s c).extent
  value_lt [] c b m e = absurd (true≢false (sym e))
  value_lt (p ∷ ps) c b m e = go (p.test c) refl e (value_lt ps c b.1 m)
    where
      go : (t : Bool) → p.test c ≡ t → (t || covered c ps) ≡ true → (covered c ps ≡ true → at_parts ps c < (label s c).extent) → at_parts (p ∷ ps) c < (label s c).extent
      go true k e r = where_lt s p.test p.count (at_parts ps) c (lt_of_le_of_lt zero-le b.0) m k
      go false k e r = rw (where_clear s p.test p.count (at_parts ps) c k) (r e)

  pub parts_in_range : T (extents_agree (together s)) → (o : Operand) (ps : List Part) → Below ps → ((c : ℕ) → member c (letters s o) ≡ true → covered c ps ≡ true)
      → InRange (s o) (at_parts ps)
  parts_in_range same o ps b h = in_range s same o (at_parts ps) (λ c m. value_lt ps c b (letter_in_lem s o c m) (h c m))

  -- ---- the address
  abbrev shares : (ℤ → ℕ) → Operand → List Part → ℕ
  shares part o ps = sum_of (λ p. offset (share s part o) (labels_where s p.test) p.count) ps

  along_parts : (part : ℤ → ℕ) (o : Operand) (ps : List Part) → Separate ps → along part (s o) (at_parts ps) ≡ shares part o ps
  along_parts part o [] h = along_zero part (s o)
  along_parts part o (p ∷ ps) h =
      omega (arith, along_where s part o p.test p.count (at_parts ps) (λ c e. clear ps c (h.0 c e)), along_parts part o ps h.1)

  balanced : (o : Operand) (ps : List Part) → offsets up o ps + shares down o ps ≡ offsets down o ps + shares up o ps
  balanced o [] = refl
  balanced o (p ∷ ps) = omega (arith, where_balanced s o p.test p.count, balanced o ps)

  -- what the axes go up and down, and what the labels go, differ by as much
  pub parts_balanced : (o : Operand) (ps : List Part) → Separate ps → offsets up o ps + along down (s o) (at_parts ps) ≡ offsets down o ps + along up (s o) (at_parts ps)
  parts_balanced o ps h = rw (along_parts up o ps h, along_parts down o ps h) (balanced o ps)

-- ---- different counts
module _ (s : Shape) {X : Type 0} (test : X → ℕ → Bool) (m n : X → ℕ) where
  -- counts of separate parts whose indices agree at every letter of the parts are the same
  pub parts_injective : (xs : List X) → Separate (parts_at test m xs) → Below s (parts_at test m xs) → Below s (parts_at test n xs)
      → ((c : ℕ) → covered c (parts_at test m xs) ≡ true → at_parts s (parts_at test m xs) c ≡ at_parts s (parts_at test n xs) c) → All (λ x. m x ≡ n x) xs
  parts_injective [] h b d e = tt
  parts_injective (x ∷ xs) h b d e = (
    at_injective (labels_where s (test x)) (m x) (n x) (at_parts s (parts_at test m xs)) (at_parts s (parts_at test n xs)) (where_distinct s (test x)) b.0 d.0
        (where_all s (test x) (λ l. at_parts s (parts_at test m (x ∷ xs)) l.letter ≡ at_parts s (parts_at test n (x ∷ xs)) l.letter) (λ c k. e c (rw k))),
    parts_injective xs h.1 b.1 d.1 (λ c k. later c k (test x c) refl),
  )
    where
      later : (c : ℕ) → covered c (parts_at test m xs) ≡ true → (t : Bool) → test x c ≡ t → at_parts s (parts_at test m xs) c ≡ at_parts s (parts_at test n xs) c
      later c k true q = absurd (true≢false (sym k ∙ missed (parts_at test m xs) c (h.0 c q)))
      later c k false q =
          sym (where_clear s (test x) (m x) (at_parts s (parts_at test m xs)) c q) ∙ e c (rw q k) ∙ where_clear s (test x) (n x) (at_parts s (parts_at test n xs)) c q

-- the address at all counts is the base and all offsets
pub address_parts : (t : Operand → Layout) (o : Operand) (ps : List Part) → Separate ps
    → address (t o) (at_parts (shape t) ps) ≡ ((t o).base + offsets (shape t) up o ps) - offsets (shape t) down o ps
unfolding address
address_parts t o ps h = omega (arith, parts_balanced (shape t) o ps h)
