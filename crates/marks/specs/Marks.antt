-- A record's two-byte mark, in ASCII, tells its kind.
-- Assumes nothing.
use Rattle.std.specs.Prelude.{ℕ, zero, suc, ◌+◌, ◌*◌, Bool, true, false, cond, eqb, Option, Some, None}
use Rattle.contraction.specs.declared.contraction.Operand.{Operand}
use Rattle.contraction.specs.declared.contraction.Operand.TheVariants.{A, B, C, D}
use Rattle.marks.specs.declared.marks.Kind.{Kind}

-- the ASCII codes of the tensors' letters
abbrev pub letter_a : ℕ
letter_a = 65

abbrev pub letter_b : ℕ
letter_b = 66

abbrev pub letter_c : ℕ
letter_c = 67

abbrev pub letter_d : ℕ
letter_d = 68

abbrev pub letter : Operand → ℕ
letter A = letter_a
letter B = letter_b
letter C = letter_c
letter D = letter_d

-- two letters as a 16-bit number, the first in the low byte
abbrev pub mark : ℕ → ℕ → ℕ
mark first second = first + 256 * second

-- `L`, `W` or `Y` and the letter of a tensor: its layout, its words, its words of a byte each; `GO`
abbrev pub layout_mark : ℕ → ℕ
layout_mark t = mark 76 t

abbrev pub words_mark : ℕ → ℕ
words_mark t = mark 87 t

abbrev pub bytes_mark : ℕ → ℕ
bytes_mark t = mark 89 t

abbrev pub go_mark : ℕ
go_mark = mark 71 79

-- the kind that a mark tells; C has no words of a byte each
abbrev pub kind_of : ℕ → Kind
kind_of m =
    cond (eqb m (layout_mark letter_a)) (Kind.Layout A)
    (cond (eqb m (layout_mark letter_b)) (Kind.Layout B)
    (cond (eqb m (layout_mark letter_c)) (Kind.Layout C)
    (cond (eqb m (layout_mark letter_d)) (Kind.Layout D)
    (cond (eqb m (words_mark letter_a)) (Kind.Words A)
    (cond (eqb m (words_mark letter_b)) (Kind.Words B)
    (cond (eqb m (words_mark letter_c)) (Kind.Words C)
    (cond (eqb m (words_mark letter_d)) (Kind.Words D)
    (cond (eqb m (bytes_mark letter_a)) (Kind.Bytes A)
    (cond (eqb m (bytes_mark letter_b)) (Kind.Bytes B)
    (cond (eqb m (bytes_mark letter_d)) (Kind.Bytes D)
    (cond (eqb m go_mark) Kind.Go Kind.Other)))))))))))

-- is a record of this kind the layout of tensor t?
abbrev pub is_layout : ℕ → Kind → Bool
is_layout t (Kind.Layout u) = eqb (letter u) t
is_layout t (Kind.Words u) = false
is_layout t (Kind.Bytes u) = false
is_layout t Kind.Go = false
is_layout t Kind.Other = false

-- how many bytes a word of tensor t has in a record of this kind; 0 where it does not hold that tensor's words
abbrev pub word_width : ℕ → Kind → ℕ
word_width t (Kind.Words u) = cond (eqb (letter u) t) 4 0
word_width t (Kind.Bytes u) = cond (eqb (letter u) t) 1 0
word_width t (Kind.Layout u) = 0
word_width t Kind.Go = 0
word_width t Kind.Other = 0

-- the width as the code answers it: none where it is 0
abbrev pub known_width : ℕ → Option ℕ
known_width zero = None
known_width (suc n) = Some (suc n)

-- is a record of this kind `GO`?
abbrev pub is_go : Kind → Bool
is_go Kind.Go = true
is_go (Kind.Layout u) = false
is_go (Kind.Words u) = false
is_go (Kind.Bytes u) = false
is_go Kind.Other = false
