-- The contraction of layouts that are the ones handed in is theirs, with C or without.
-- Assumes nothing.
use mathlib.Core.Path.{◌≡◌}
use mathlib.Core.Bool.{Bool}
use Prim.Native.Nat.{ℕ}
use Rattle.layout.specs.declared.layout.Layout.{Layout}
use Rattle.contraction.specs.declared.contraction.Contraction.{Contraction}
use Rattle.contraction.specs.Operands.{contraction_if}

pub made : (named : Bool) {k : Contraction} {a a' b b' c c' d d' : Layout} (alpha beta : ℕ) → k ≡ contraction_if named a b c d alpha beta
    → a ≡ a' → b ≡ b' → c ≡ c' → d ≡ d' → k ≡ contraction_if named a' b' c' d' alpha beta
made named alpha beta e ea eb ec ed = rw (e, ea, eb, ec, ed)
