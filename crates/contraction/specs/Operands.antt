-- The tensors of a contraction. Another one is one more case here.
-- Assumes nothing.
use Rattle.std.specs.Prelude.{ℕ, Bool, true, false, cond, List, [], ◌∷◌, ◌++◌, Some, None, is_some, unwrap_or}
use Rattle.layout.specs.declared.layout.Axis.{Axis}
use Rattle.layout.specs.declared.layout.Layout.{Layout}
use Rattle.layout.specs.Layout.{axes}
use Rattle.contraction.specs.declared.contraction.Contraction.{Contraction}
use Rattle.contraction.specs.declared.contraction.Operand.{Operand}
use Rattle.contraction.specs.declared.contraction.Operand.TheVariants.{A, B, C, D}
use Rattle.contraction.specs.declared.contraction.Lengths.{Lengths}

abbrev pub operands : List Operand
operands = A ∷ B ∷ C ∷ D ∷ []

-- one thing for each tensor
abbrev pub four : {X : Type 0} → X → X → X → X → Operand → X
four a b c d A = a
four a b c d B = b
four a b c d C = c
four a b c d D = d

-- without C: D stands for it
abbrev pub three : {X : Type 0} → X → X → X → Operand → X
three a b d = four a b d d

-- is C one of its tensors
abbrev pub named : Contraction → Bool
named k = is_some k.c

-- the contraction of these layouts and factors, with C or, where it is not named, with no layout of C; without C; with C
abbrev pub contraction_if : Bool → Layout → Layout → Layout → Layout → ℕ → ℕ → Contraction
contraction_if with_c a b c d alpha beta = record { a = a; b = b; c = cond with_c (Some c) None; d = d; alpha = alpha; beta = beta }

abbrev pub contraction_of : Layout → Layout → Layout → ℕ → ℕ → Contraction
contraction_of a b d = contraction_if false a b d d

abbrev pub contraction_with_c : Layout → Layout → Layout → Layout → ℕ → ℕ → Contraction
contraction_with_c = contraction_if true

-- one thing for each tensor of a contraction; where it names no C, D stands for it
abbrev pub of_tensors : {X : Type 0} → Contraction → X → X → X → X → Operand → X
of_tensors k a b c d = four a b (cond (named k) c d) d

abbrev pub tensors : Contraction → Operand → Layout
tensors k = four k.a k.b (unwrap_or k.c k.d) k.d

-- how many words each tensor's slice has
abbrev pub lengths : Contraction → Lengths → Operand → ℕ
lengths k n = of_tensors k n.a n.b n.c n.d

-- the axes of each tensor
abbrev pub Shape : Type 0
Shape = Operand → List Axis

abbrev pub shape : (Operand → Layout) → Shape
shape t o = axes (t o)

-- the axes of all tensors in the order in which groups take their letters: D's, then A's, then B's. C's stand last, for question 6; once 30 passed they add no
-- letter
unfoldable pub together : Shape → List Axis
together s = s D ++ (s A ++ (s B ++ s C))
