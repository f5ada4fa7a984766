-- The groups of a tensor's labels: A has no column label, B no row label and D no depth label, nor has C, whose letters are D's. So an index at counts of a tensor's own groups gives each of
-- its letters the value that counts of all four groups give it, and its address is the same.
-- Assumes nothing.
use mathlib.Core.Path.{◌≡◌, refl, sym, ap, ◌∙◌}
use mathlib.Core.Bool.{Bool, true, false, not, ◌||◌, true≢false}
use mathlib.Core.List.{List, [], ◌∷◌}
use mathlib.Core.Logic.{◌≢◌}
use Prim.Native.Nat.{ℕ}
use native.Mathlib.Omega.{arith}
use lib.Dec.{eqb}
use Rattle.words.specs.Lists.{cons_if, keep, member}
use Rattle.words.proofs.Lists.{T_true, all_imp, all_map, all_member, covers, eqb-true, eqb_ne}
use Rattle.words.proofs.Sums.{and_split, every_all}
use Rattle.layout.specs.declared.layout.Layout.{Layout}
use Rattle.layout.specs.Layout.{axes, address}
use Rattle.layout.proofs.Address.{address_agree}
use Rattle.points.specs.LabelQuestions.{letters_among, letters_same}
use Rattle.contraction.specs.Operands.{Shape, shape}
use Rattle.contraction.specs.declared.contraction.Operand.{Operand}
use Rattle.contraction.specs.declared.contraction.Operand.TheVariants.{A, B, C, D}
use Rattle.groups.specs.Groups.{letters, Group, batch, row, column, depth, group_by, group_of, group_number, in_group, labels_where}
use Rattle.meaning.proofs.CountAddress.{at_agrees, where_clear}
use Rattle.meaning.proofs.IndexParts.{Part, Separate, covered, parts_at, kept_separate, at_parts}

-- a count for each group; that of a group which a tensor lacks is not read there
abbrev pub group_counts : ℕ → ℕ → ℕ → ℕ → Group → ℕ
group_counts h i j k batch = h
group_counts h i j k row = i
group_counts h i j k column = j
group_counts h i j k depth = k

-- the group that a tensor has no label of
abbrev lacking : Operand → Group
lacking A = column
lacking B = row
lacking C = depth
lacking D = depth

-- can the tensor have labels of the group?
abbrev pub has : Operand → Group → Bool
has o g = not (eqb (group_number g) (group_number (lacking o)))

-- all groups, and those of a tensor
abbrev pub all_groups : List Group
all_groups = depth ∷ batch ∷ row ∷ column ∷ []

abbrev pub groups_of : Operand → List Group
groups_of o = keep (has o) all_groups

-- ---- which group a letter is of

-- A's label is never a column label, B's no row label and D's no depth label
own_a : (b d : Bool) → has A (group_by true b d) ≡ true
own_a b false = refl
own_a true true = refl
own_a false true = refl

own_b : (a d : Bool) → has B (group_by a true d) ≡ true
own_b a false = refl
own_b true true = refl
own_b false true = refl

own_d : (a b : Bool) → has D (group_by a b true) ≡ true
own_d true true = refl
own_d false true = refl
own_d a false = refl

module _ (s : Shape) where
  -- a letter of the tensor is of one of its groups
  pub record OwnGroup (o : Operand) : Type 0 where
    pub each : (c : ℕ) → member c (letters s o) ≡ true → has o (group_of s c) ≡ true

  pub of_own_d : OwnGroup D
  unfolding group_of
  of_own_d = record { each = λ c e. rw e (own_d (member c (letters s A)) (member c (letters s B))) }

  -- where question 30 passes, C's letters are D's
  module _ (same : letters_same (s C) (s D) ≡ true) where
    pub c_in_d : (c : ℕ) → member c (letters s C) ≡ true → member c (letters s D) ≡ true
    unfolding letters_same
    c_in_d c =
        all_member (λ c. member c (letters s D) ≡ true) c (letters s C)
        (all_map (λ c. member c (letters s D) ≡ true) (λ a. a.letter) (s C)
        (all_imp (λ a. T_true (member a.letter (letters s D))) (s C)
        (every_all (λ a. member a.letter (letters s D)) (s C) (and_split (letters_among (s C) (s D)) (letters_among (s D) (s C)) (rw same tt)).0)))

    -- so that each tensor's letters are of its groups
    pub own_group : (o : Operand) → OwnGroup o
    unfolding group_of
    own_group A = record { each = λ c e. rw e (own_a (member c (letters s B)) (member c (letters s D))) }
    own_group B = record { each = λ c e. rw e (own_b (member c (letters s A)) (member c (letters s D))) }
    own_group C = record { each = λ c e. of_own_d.each c (c_in_d c e) }
    own_group D = of_own_d

  -- and of no group that it lacks
  pub lacks : (o : Operand) → OwnGroup o → (g : Group) → has o g ≡ false → (c : ℕ) → member c (letters s o) ≡ true → in_group s g c ≡ false
  unfolding in_group
  lacks o own g n c e =
      eqb_ne (group_number (group_of s c)) (group_number g)
      (λ q. true≢false (sym (own.each c e) ∙ ap (λ (x : ℕ). not (eqb x (group_number (lacking o)))) q ∙ n))

  -- a letter of one group is in no other
  other : (g h : Group) → group_number g ≢ group_number h → (c : ℕ) → in_group s g c ≡ true → in_group s h c ≡ false
  unfolding in_group
  other g h d c e = eqb_ne (group_number (group_of s c)) (group_number h) (λ q. d (sym (eqb-true (group_number (group_of s c)) (group_number g) e) ∙ q))

  -- ---- counts of groups
  module _ (n : Group → ℕ) where
    -- the labels of some groups, each at its count
    abbrev pub groups_at : List Group → List Part
    groups_at gs = parts_at (in_group s) n gs

    all_separate : Separate (groups_at all_groups)
    all_separate = (
      λ c e. (other depth batch (omega arith) c e, (other depth row (omega arith) c e, (other depth column (omega arith) c e, tt))),
      (
        λ c e. (other batch row (omega arith) c e, (other batch column (omega arith) c e, tt)),
        (λ c e. (other row column (omega arith) c e, tt), (λ c e. tt, tt)),
      ),
    )

    all_cover : (c : ℕ) → covered c (groups_at all_groups) ≡ true
    unfolding in_group
    all_cover c = go (group_of s c)
      where
        go : (g : Group) → (eqb (group_number g) 3 || (eqb (group_number g) 0 || (eqb (group_number g) 1 || (eqb (group_number g) 2 || false)))) ≡ true
        go batch = refl
        go row = refl
        go column = refl
        go depth = refl

    -- ---- of a tensor's groups
    module _ (o : Operand) where
      pub own_separate : Separate (groups_at (groups_of o))
      own_separate = kept_separate (in_group s) n (has o) all_groups all_separate

      module _ (own : OwnGroup o) (c : ℕ) (e : member c (letters s o) ≡ true) where
        kept_covers : (gs : List Group) → covered c (groups_at (keep (has o) gs)) ≡ covered c (groups_at gs)
        kept_covers [] = refl
        kept_covers (g ∷ gs) = go (has o g) refl (kept_covers gs)
          where
            go : (b : Bool) → has o g ≡ b → covered c (groups_at (keep (has o) gs)) ≡ covered c (groups_at gs)
                → covered c (groups_at (cons_if b g (keep (has o) gs))) ≡ (in_group s g c || covered c (groups_at gs))
            go true k r = ap (λ (x : Bool). in_group s g c || x) r
            go false k r = rw (lacks o own g k c e) r

        -- its groups cover its letters
        pub own_cover : covered c (groups_at (groups_of o)) ≡ true
        own_cover = kept_covers all_groups ∙ all_cover c

        -- and the counts of other groups give them nothing
        kept_at : (gs : List Group) → at_parts s (groups_at gs) c ≡ at_parts s (groups_at (keep (has o) gs)) c
        kept_at [] = refl
        kept_at (g ∷ gs) = go (has o g) refl (kept_at gs)
          where
            go : (b : Bool) → has o g ≡ b → at_parts s (groups_at gs) c ≡ at_parts s (groups_at (keep (has o) gs)) c
                → at_parts s (groups_at (g ∷ gs)) c ≡ at_parts s (groups_at (cons_if b g (keep (has o) gs))) c
            go true k r = at_agrees (labels_where s (in_group s g)) (n g) _ _ c r
            go false k r = where_clear s (in_group s g) (n g) _ c (lacks o own g k c e) ∙ r

-- a tensor's address at counts of all groups is that at the counts of its own
pub address_own : (t : Operand → Layout) (n : Group → ℕ) (o : Operand) → OwnGroup (shape t) o
    → address (t o) (at_parts (shape t) (groups_at (shape t) n all_groups)) ≡ address (t o) (at_parts (shape t) (groups_at (shape t) n (groups_of o)))
address_own t n o own = address_agree (t o) _ _ (all_imp (λ a e. kept_at (shape t) n o own a.letter e all_groups) (axes (t o)) (covers (λ a. a.letter) (axes (t o))))
