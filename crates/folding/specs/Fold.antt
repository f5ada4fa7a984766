-- Folding: in each group, labels of extent 1 are dropped, and labels that step through the words together become one.
-- Assumes nothing.
use Rattle.std.specs.Prelude.{◌*◌, Bool, true, false, cond, not, List, [], ◌∷◌, ℤ, pos, negsuc, ◌*ℤ◌, eqb}
use Rattle.words.specs.Sums.{every}
use Rattle.words.specs.Lists.{keep}
use Rattle.contraction.specs.Operands.{operands}
use Rattle.contraction.specs.declared.contraction.Operand.{Operand}
use Rattle.groups.specs.Groups.{Label}

abbrev pub eq_ℤ : ℤ → ℤ → Bool
eq_ℤ (pos m) (pos n) = eqb m n
eq_ℤ (pos m) (negsuc n) = false
eq_ℤ (negsuc m) (pos n) = false
eq_ℤ (negsuc m) (negsuc n) = eqb m n

-- in a tensor, the stride of l is p's extent × p's stride
abbrev pub follows : Label → Label → Operand → Bool
follows p l o = eq_ℤ (l.stride o) (pos p.extent *ℤ p.stride o)

-- in every tensor, the stride of l is p's extent × p's stride
abbrev pub joins : Label → Label → Bool
joins p l = every (follows p l) operands

-- joined, they keep the first stride, and the extents multiply
abbrev pub join : Label → Label → Label
join p l = record { letter = p.letter; extent = p.extent * l.extent; stride = p.stride }

-- left to right, with p the label before
abbrev pub join_from : Label → List Label → List Label
join_from p [] = p ∷ []
join_from p (l ∷ g) = elim (joins p l) [ true ↦ join_from (join p l) g | false ↦ p ∷ join_from l g ]

abbrev pub join_all : List Label → List Label
join_all [] = []
join_all (l ∷ g) = join_from l g

-- a folded list with one label more: joined to the last one, or behind it
abbrev pub add_to : List Label → Label → List Label
add_to [] l = l ∷ []
add_to (p ∷ []) l = cond (joins p l) (join p l ∷ []) (p ∷ l ∷ [])
add_to (p ∷ q ∷ g) l = p ∷ add_to (q ∷ g) l

abbrev pub not_one : Label → Bool
not_one l = not (eqb l.extent 1)

abbrev pub fold : List Label → List Label
fold g = join_all (keep not_one g)
