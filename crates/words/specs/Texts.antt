-- Texts as lists of ASCII codes.
-- Assumes nothing.
use Rattle.std.specs.Prelude.{ℕ, List, [], ◌∷◌}
use Prim.Native.Char.{code}
use Prim.Native.String.{String, [] as none, ◌∷◌ as ◌then◌}

-- the codes of a text's characters
abbrev pub codes : String → List ℕ
codes none = []
codes (c then s) = code c ∷ codes s
