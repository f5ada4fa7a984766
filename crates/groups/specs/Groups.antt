-- The labels of a contraction and their four groups. A group counts from 0 up to its size; its first label runs fastest.
-- Assumes nothing.
use Rattle.std.specs.Prelude.{ℕ, Bool, true, false, List, map, ℤ, eqb}
use Rattle.words.specs.Sums.{product}
use Rattle.words.specs.Lists.{keep, member}
use Rattle.layout.specs.Layout.{letters_of}
use Rattle.labels.specs.Labels.{stride_of, extent_of, labels}
use Rattle.contraction.specs.Operands.{Shape, together}
use Rattle.contraction.specs.declared.contraction.Operand.{Operand}
use Rattle.contraction.specs.declared.contraction.Operand.TheVariants.{A, B, D}

-- a letter with its extent, and its stride in each tensor: the sum of its strides there, 0 where it is absent
pub record Label : Type 0 where
  pub letter : ℕ
  pub extent : ℕ
  pub stride : Operand → ℤ

abbrev pub label : Shape → ℕ → Label
label s c = record { letter = c; extent = extent_of c (together s); stride = λ o. stride_of c (s o) }

abbrev pub letters : Shape → Operand → List ℕ
letters s o = letters_of (s o)

pub data Group : Type 0 where
  batch row column depth : Group

-- the group of a label, by whether A, B and D have it: batch in all three, column in B and D and not A, row every other label
-- of D, depth every label not in D
abbrev pub group_by : Bool → Bool → Bool → Group
group_by a b false = depth
group_by true true true = batch
group_by false true true = column
group_by a false true = row

unfoldable pub group_of : Shape → ℕ → Group
group_of s c = group_by (member c (letters s A)) (member c (letters s B)) (member c (letters s D))

abbrev pub group_number : Group → ℕ
group_number batch = 0
group_number row = 1
group_number column = 2
group_number depth = 3

unfoldable pub in_group : Shape → Group → ℕ → Bool
in_group s g c = eqb (group_number (group_of s c)) (group_number g)

-- the labels whose letters pass a test, in order of first appearance in D's labels, then A's, then B's
abbrev pub labels_where : Shape → (ℕ → Bool) → List Label
labels_where s p = map (label s) (keep p (labels (together s)))

-- batch, row and column labels in order of first appearance in D's labels; depth in that of A's, then B's
unfoldable pub group : Shape → Group → List Label
group s g = labels_where s (in_group s g)

-- D's labels in order of first appearance: those of the batch, row and column groups
unfoldable pub outputs : Shape → List Label
outputs s = labels_where s (λ c. member c (letters s D))

-- the product of the extents; an empty group has size 1
abbrev pub size : List Label → ℕ
size g = product (λ l. l.extent) g
