-- D's labels: which letters they are, and that no depth label is one of them.
-- Assumes nothing.
use mathlib.Core.Path.{◌≡◌, refl, sym, ◌∙◌}
use mathlib.Core.Bool.{Bool, true, false, true≢false}
use Prim.Native.Nat.{ℕ}
use Rattle.words.specs.Lists.{member}
use Rattle.contraction.specs.Operands.{Shape}
use Rattle.contraction.specs.declared.contraction.Operand.TheVariants.{D}
use Rattle.groups.specs.Groups.{letters, depth, group_of, in_group}
use Rattle.meaning.proofs.OwnGroups.{of_own_d, lacks}

module _ (s : Shape) where
  -- is it a letter of D?
  abbrev pub in_d : ℕ → Bool
  in_d c = member c (letters s D)

  -- D's letters are of the other groups, and all other letters of the depth group
  pub not_depth : (c : ℕ) → in_d c ≡ true → in_group s depth c ≡ false
  not_depth = lacks s D (of_own_d s) depth refl

  pub is_depth : (c : ℕ) → in_d c ≡ false → group_of s c ≡ depth
  unfolding group_of
  is_depth c e = rw e

  pub depth_not_in : (c : ℕ) → in_group s depth c ≡ true → in_d c ≡ false
  depth_not_in c e = go (in_d c) (not_depth c)
    where
      go : (b : Bool) → (b ≡ true → in_group s depth c ≡ false) → b ≡ false
      go true f = absurd (true≢false (sym e ∙ f refl))
      go false f = refl
