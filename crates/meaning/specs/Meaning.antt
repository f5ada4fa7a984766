-- What a contraction leaves in D: the meaning of TAPP, with repeated labels, labels of one tensor only, and broadcast.
-- Assumes nothing.
use Rattle.std.specs.Prelude.{ℕ, ◌+◌, ◌*◌, Bool, cond, List, get_or, length}
use Rattle.words.specs.Words.{word}
use Rattle.words.specs.Loops.{overwrite}
use Rattle.layout.specs.Layout.{address}
use Rattle.contraction.specs.declared.contraction.Contraction.{Contraction}
use Rattle.contraction.specs.Operands.{Shape, of_tensors, named, tensors, shape}
use Rattle.contraction.specs.declared.contraction.Operand.{Operand}
use Rattle.contraction.specs.declared.contraction.Operand.TheVariants.{A, B, C, D}
use Rattle.tensor_answers.specs.Asking.{refusal}
use Rattle.questions.specs.Questions.{layout_questions}
use Rattle.groups.specs.Groups.{depth, group, outputs, size}
use Rattle.meaning.specs.Index.{sum_over, out_index}

-- the words of each tensor's slice
abbrev pub Slices : Type 0
Slices = Operand → List ℕ

-- how many words each tensor's slice has; where C is not named, D stands for it
abbrev pub lengths_in : Contraction → Slices → Operand → ℕ
lengths_in c w = of_tensors c (length (w A)) (length (w B)) (length (w C)) (length (w D))

-- questions 1 to 9, with 30, of a contraction and its slices: the number of the first no, 0 where all pass
abbrev pub first_no : Contraction → Slices → ℕ
first_no c w = refusal (layout_questions (tensors c) (lengths_in c w))

abbrev pub shape_in : Contraction → Shape
shape_in c = shape (tensors c)

-- what a sum starts from: C's entry where C is named, else the old word of D
abbrev pub start_of : Bool → ℕ → ℕ → ℕ
start_of named entry old = cond named entry old

-- alpha × a sum + beta × what it starts from, modulo 2^32
abbrev pub combined : ℕ → ℕ → ℕ → ℕ → ℕ
combined alpha beta sum start = word 32 (alpha * sum + beta * start)

module _ (c : Contraction) (w : Slices) where
  -- the entry of a tensor at an index: a tensor that lacks a label has the same entry at each of its values
  unfoldable pub entry : Operand → (ℕ → ℕ) → ℕ
  entry o ρ = get_or (w o) (address (tensors c o) ρ) 0

  -- alpha × (the sum, over every label that D lacks, of A's entry × B's entry) + beta × C's entry, or the old word where C is not named
  unfoldable pub value : (ℕ → ℕ) → ℕ
  value ρ = combined c.alpha c.beta (sum_over (group (shape_in c) depth) (λ σ. entry A σ * entry B σ) ρ) (start_of (named c) (entry C ρ) (entry D ρ))

-- D's words afterwards: each output index's value at its address
unfoldable pub result : Contraction → Slices → List ℕ
result c w =
    overwrite (size (outputs (shape_in c)))
    (λ m. address (tensors c D) (out_index (shape_in c) m))
    (λ m. value c w (out_index (shape_in c) m))
    (w D)
