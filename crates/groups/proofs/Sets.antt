-- The four groups as sets of letters: of the letters of all tensors together, each set has just those of its group.
-- Assumes nothing.
use mathlib.Core.Path.{◌≡◌, refl, ◌∙◌}
use mathlib.Core.Bool.{Bool, true, false, not, ◌&&◌, ◌||◌}
use mathlib.Core.List.{map}
use Prim.Native.Nat.{ℕ}
use lib.Dec.{eqb}
use Rattle.words.specs.Sums.{All}
use Rattle.words.specs.Lists.{keep, member}
use Rattle.words.proofs.Lists.{T_true, all_imp, all_map, all_once, keep_ext, member_once}
use Rattle.words.proofs.Sums.{every_all}
use Rattle.layout.specs.declared.layout.Axis.{Axis}
use Rattle.layout.specs.Layout.{letters_of}
use Rattle.validity.specs.Letters.{is_letter}
use Rattle.validity.specs.TensorQuestions.{letters_valid}
use Rattle.labels.specs.declared.letter_sets.Letters.{Letters}
use Rattle.labels.specs.Labels.{labels}
use Rattle.labels.specs.LetterSets.{has, Spells}
use Rattle.contraction.specs.declared.operands.Operands.{Operands}
use Rattle.contraction.specs.Operands.{together}
use Rattle.contraction.specs.declared.contraction.Operand.{Operand}
use Rattle.contraction.specs.declared.contraction.Operand.TheVariants.{A, B, D}
use Rattle.contraction.specs.TensorAxes.{shape_of}
use Rattle.contraction.proofs.Together.{every_together}
use Rattle.groups.specs.declared.groups.Sets.{Sets}
use Rattle.groups.specs.Groups.{Group, batch, row, column, depth, group_by, group_of, group_number, in_group, group, outputs, label, letters}
use Rattle.groups.specs.Sets.{Split, sets_in}

-- ---- the four sets

-- does a group's set have a letter, by whether A, B and D have it
abbrev pub in_set : Group → Bool → Bool → Bool → Bool
in_set batch a b d = (a && b) && d
in_set column a b d = (b && d) && not a
in_set row a b d = d && not (((a && b) && d) || ((b && d) && not a))
in_set depth a b d = not d

pub split_set : (a b d : ℕ) (r : Sets) → Split a b d r → (g : Group) (c : ℕ) → has (sets_in r g) c ≡ in_set g (has a c) (has b c) (has d c)
split_set a b d r s batch c = s.batch c
split_set a b d r s row c = rw (s.row c, s.batch c, s.column c)
split_set a b d r s column c = s.column c
split_set a b d r s depth c = s.depth c

of_each_lem : (P : Group → Type 0) → P batch → P row → P column → P depth → (g : Group) → P g
of_each_lem P b r c d batch = b
of_each_lem P b r c d row = r
of_each_lem P b r c d column = c
of_each_lem P b r c d depth = d

-- a letter is in the set of its group and in no other
set_group : (a b d : Bool) (g : Group) → in_set g a b d ≡ eqb (group_number (group_by a b d)) (group_number g)
set_group true true true = of_each_lem _ refl refl refl refl
set_group true true false = of_each_lem _ refl refl refl refl
set_group true false true = of_each_lem _ refl refl refl refl
set_group true false false = of_each_lem _ refl refl refl refl
set_group false true true = of_each_lem _ refl refl refl refl
set_group false true false = of_each_lem _ refl refl refl refl
set_group false false true = of_each_lem _ refl refl refl refl
set_group false false false = of_each_lem _ refl refl refl refl

module _ (x : Operands) where
  -- a tensor's set has just its letters
  has_letter : (o : Operand) (l : Letters) → Spells l (labels (shape_of x o)) → (c : ℕ) → is_letter c ≡ true → has l.set c ≡ member c (letters (shape_of x) o)
  unfolding labels
  has_letter o l e c v = e.sets c v ∙ member_once c (letters (shape_of x) o)

  valid : All (λ c. is_letter c ≡ true) (labels (together (shape_of x)))
  unfolding labels letters_valid
  valid =
      let xs = together (shape_of x) in
      all_once (λ c. is_letter c ≡ true) (letters_of xs)
      (all_map (λ c. is_letter c ≡ true) (λ (a : Axis). a.letter) xs
      (all_imp (λ a. T_true (is_letter a.letter)) xs
      (every_all (λ (a : Axis). is_letter a.letter) xs (every_together (λ (a : Axis). is_letter a.letter) (shape_of x) (λ o. (x.gathered.each o).checked.letters)))))

  -- the labels of the letters that D's set has are D's labels
  pub kept_output : (l : Letters) → Spells l (labels (shape_of x D)) → map (label (shape_of x)) (keep (has l.set) (labels (together (shape_of x)))) ≡ outputs (shape_of x)
  unfolding outputs
  kept_output l e =
      rw (keep_ext (has l.set) (λ c. member c (letters (shape_of x) D)) (labels (together (shape_of x))) (all_imp (has_letter D l e) (labels (together (shape_of x))) valid))

  module _ (ls : Operand → Letters) (spelt : (o : Operand) → Spells (ls o) (labels (shape_of x o))) (r : Sets) (s : Split (ls A).set (ls B).set (ls D).set r) (g : Group) where
    in_set_lem : All (λ c. has (sets_in r g) c ≡ in_group (shape_of x) g c) (labels (together (shape_of x)))
    unfolding in_group group_of
    in_set_lem = all_imp each (labels (together (shape_of x))) valid
      where
        each : (c : ℕ) → is_letter c ≡ true
            → has (sets_in r g) c ≡ eqb (group_number (group_by (member c (letters (shape_of x) A)) (member c (letters (shape_of x) B)) (member c (letters (shape_of x) D)))) (group_number g)
        each c v =
            rw (split_set (ls A).set (ls B).set (ls D).set r s g c, has_letter A (ls A) (spelt A) c v, has_letter B (ls B) (spelt B) c v, has_letter D (ls D) (spelt D) c v)
            (set_group (member c (letters (shape_of x) A)) (member c (letters (shape_of x) B)) (member c (letters (shape_of x) D)) g)

    -- the labels of the letters that a group's set has are the group
    pub kept_group : map (label (shape_of x)) (keep (has (sets_in r g)) (labels (together (shape_of x)))) ≡ group (shape_of x) g
    unfolding group
    kept_group = rw (keep_ext (has (sets_in r g)) (in_group (shape_of x) g) (labels (together (shape_of x))) in_set_lem)
