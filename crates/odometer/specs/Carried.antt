-- Carried addresses: the digits of a count of a list of labels, and the address word of a tensor that is carried from each count to the next.
-- Assumes nothing.
use Rattle.std.specs.Prelude.{ℕ, zero, suc, ◌+◌, ◌-◌, ◌*◌, ◌/◌, ◌%◌, ◌^◌, cond, List, [], ◌∷◌, map, nat_lt, slice_index}
use Rattle.words.specs.Words.{word, word_of}
use Rattle.contraction.specs.declared.contraction.Operand.{Operand}
use Rattle.groups.specs.Groups.{Label}

-- the digits of a count, the first label's first: it runs fastest
abbrev pub digits : List Label → ℕ → List ℕ
digits [] n = []
digits (l ∷ g) n = n % l.extent ∷ digits g (n / l.extent)

-- the place of the label that goes up from a count to the next: the first one whose digit is not its last. The labels before it go back to 0
abbrev pub rising : List Label → ℕ → ℕ
rising [] n = 0
rising (l ∷ g) n = cond (nat_lt (n % l.extent + 1) l.extent) 0 (suc (rising g (n / l.extent)))

-- how far the labels before place i go in a tensor from 0 to their last values: extent - 1 strides each
abbrev pub before : Operand → List Label → ℕ → ℕ
before o [] i = 0
before o (l ∷ g) zero = 0
before o (l ∷ g) (suc i) = (l.extent - 1) * word_of 64 (l.stride o) + before o g i

-- the stride, as an address word, of the label at place i
abbrev pub stride_at : Operand → List Label → ℕ → ℕ
stride_at o g i = slice_index (map (λ l. word_of 64 (l.stride o)) g) i

-- how far an address word moves when the label at place i goes up: by its stride, less what the labels before it go back
abbrev pub move : Operand → List Label → ℕ → ℕ
move o g i = word 64 (stride_at o g i + (2 ^ 64 - word 64 (before o g i)))

-- the address word of a tensor at a count, carried along from count 0, where it is x
abbrev pub carried : Operand → ℕ → List Label → ℕ → ℕ
carried o x g zero = word 64 x
carried o x g (suc n) = word 64 (carried o x g n + move o g (rising g n))
