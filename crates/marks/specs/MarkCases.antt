-- The marks of the records, as 16-bit numbers: the first letter is the low byte.
-- Assumes nothing.
use Rattle.std.specs.Prelude.{ℕ, ◌+◌, ◌*◌, ◌≡◌, List, [], ◌∷◌, map}
use Rattle.contraction.specs.declared.contraction.Operand.TheVariants.{A, B, C, D}
use Rattle.marks.specs.declared.marks.Kind.{Kind}
use Rattle.marks.specs.Marks.{letter, kind_of}

-- A, B, C and D are 65 to 68; L, W and Y are 76, 87 and 89
abbrev kinds : ℕ → List ℕ → List Kind
kinds first seconds = map (λ second. kind_of (first + 256 * second)) seconds

pub record MarkCases : Type 0 where
  pub letters : map letter (A ∷ B ∷ C ∷ D ∷ []) ≡ 65 ∷ 66 ∷ 67 ∷ 68 ∷ []
  -- "`LA` `LB` `LD`", "`WA` `WB` `WD`", "`YA` `YB` `YD` may replace these", "`GO`"; "In the job file `LC` and `WC` may follow B's words"
  pub layouts : kinds 76 (65 ∷ 66 ∷ 67 ∷ 68 ∷ []) ≡ Kind.Layout A ∷ Kind.Layout B ∷ Kind.Layout C ∷ Kind.Layout D ∷ []
  pub words : kinds 87 (65 ∷ 66 ∷ 67 ∷ 68 ∷ []) ≡ Kind.Words A ∷ Kind.Words B ∷ Kind.Words C ∷ Kind.Words D ∷ []
  pub bytes : kinds 89 (65 ∷ 66 ∷ 68 ∷ []) ≡ Kind.Bytes A ∷ Kind.Bytes B ∷ Kind.Bytes D ∷ []
  pub go : kind_of (71 + 256 * 79) ≡ Kind.Go
  -- `YC`, `OG`
  pub others : kind_of (89 + 256 * 67) ∷ kind_of (79 + 256 * 71) ∷ [] ≡ Kind.Other ∷ Kind.Other ∷ []
