-- The plain engine where C is not named.
-- Assumes nothing.
use Rattle.std.specs.Prelude.{ℕ, ◌≡◌, false, List}
use Rattle.layout.specs.declared.layout.Layout.{Layout}
use Rattle.contraction.specs.Operands.{four, three, contraction_if, contraction_of}
use Rattle.plain.specs.PlainCall.{plain_call}

-- "the form without C behaves as before": words that stand in C's place are neither asked about nor read, and there is no layout in C's place
abbrev pub PlainWithoutC : Type 0
PlainWithoutC = (a b c d : Layout) (alpha beta : ℕ) (wa wb wc wd : List ℕ)
    → plain_call (contraction_if false a b c d alpha beta) (four wa wb wc wd) ≡ plain_call (contraction_of a b d alpha beta) (three wa wb wd)
