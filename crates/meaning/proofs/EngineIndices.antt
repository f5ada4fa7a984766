-- The indices that engines use, as parts: the groups that split D's letters; an output count; an output count with a depth count.
-- Assumes nothing.
use mathlib.Core.Path.{◌≡◌, refl}
use mathlib.Core.Bool.{Bool, true, false, ◌||◌, or-true, or-false}
use mathlib.Core.List.{[], ◌∷◌}
use Prim.Native.Nat.{ℕ, ◌<◌}
use lib.Dec.{T, eqb}
use Rattle.words.specs.Lists.{member}
use Rattle.points.specs.LabelQuestions.{extents_agree}
use Rattle.entries.specs.Bounds.{InRange}
use Rattle.contraction.specs.Operands.{Shape, together}
use Rattle.contraction.specs.declared.contraction.Operand.TheVariants.{A, B, D}
use Rattle.groups.specs.Groups.{letters, depth, group_by, group_of, group_number, in_group, outputs, size}
use Rattle.meaning.specs.Index.{out_index}
use Rattle.meaning.proofs.IndexParts.{Part, Separate, covered, Splits, parts_in_range}
use Rattle.meaning.proofs.Outputs.{in_d, is_depth, depth_not_in}
use Rattle.meaning.proofs.OwnGroups.{groups_of, own_separate}

module _ (s : Shape) where
  -- ---- the groups of D's labels
  pub out_groups : Splits s D (in_group s) (groups_of D)
  unfolding in_group group_of
  out_groups = record { separate = λ n. own_separate s n D; covers = λ n c. go (member c (letters s A)) (member c (letters s B)) (in_d s c) }
    where
      go : (a b d : Bool) → (eqb (group_number (group_by a b d)) 0 || (eqb (group_number (group_by a b d)) 1 || (eqb (group_number (group_by a b d)) 2 || false))) ≡ d
      go a b false = refl
      go true true true = refl
      go false true true = refl
      go a false true = refl

  -- ---- outputs
  abbrev pub output_at : ℕ → Part
  output_at m = record { test = in_d s; count = m }

  abbrev pub depth_at : ℕ → Part
  depth_at k = record { test = in_group s depth; count = k }

  pub out_separate : (m : ℕ) → Separate (output_at m ∷ [])
  out_separate m = (λ c e. tt, tt)

  pub out_covers : (m c : ℕ) → in_d s c ≡ true → covered c (output_at m ∷ []) ≡ true
  out_covers m c e = rw e

  pub out_labels : Splits s D (λ (u : Unit {0}). in_d s) (tt ∷ [])
  out_labels = record { separate = λ n. out_separate (n tt); covers = λ n c. or-false (in_d s c) }

  pub term_separate : (m k : ℕ) → Separate (depth_at k ∷ output_at m ∷ [])
  term_separate m k = (λ c e. (depth_not_in s c e, tt), (λ c e. tt, tt))

  pub term_covers : (m k c : ℕ) → covered c (depth_at k ∷ output_at m ∷ []) ≡ true
  unfolding in_group
  term_covers m k c = go (in_d s c) refl
    where
      go : (b : Bool) → in_d s c ≡ b → (eqb (group_number (group_of s c)) 3 || (in_d s c || false)) ≡ true
      go true e = rw e (or-true (eqb (group_number (group_of s c)) 3))
      go false e = rw (is_depth s c e)

  -- an output's index gives D's labels values below their extents
  pub out_in_range : T (extents_agree (together s)) → (m : ℕ) → m < size (outputs s) → InRange (s D) (out_index s m)
  unfolding outputs out_index
  out_in_range same m h = parts_in_range s same D (output_at m ∷ []) (h, tt) (out_covers m)
