-- A layout as the calls for C and Rust take it, in 28 words: 0 to 7 are the letters, 8 to 15 the extents, 16 to 23 the strides in two's complement,
-- 24, 25 and 26 how many letters, extents and strides there are, and 27 is the base.
-- Assumes nothing.
use Rattle.std.specs.Prelude.{ℕ, ◌+◌, cond, List, map, leb, get_or, pos}
use Rattle.words.specs.Lists.{tabulate}
use Rattle.words.specs.Words.{signed}
use Rattle.layout.specs.declared.layout.Axis.{Axis}
use Rattle.layout.specs.declared.layout.Layout.{Layout}
use Rattle.layout.specs.Layout.{layout_of}
use Rattle.contraction.specs.declared.contraction.Contraction.{Contraction}
use Rattle.contraction.specs.Operands.{contraction_of, contraction_with_c}

-- the words from one place on, as many as the word at another place says: what is past them means nothing
unfoldable pub counted : List ℕ → ℕ → ℕ → List ℕ
counted words from count = tabulate (get_or words count 0) (λ i. get_or words (from + i) 0)

-- a letter's word: one above 255 is read as letter 0, which question 3 refuses
abbrev pub letter_in : ℕ → ℕ
letter_in x = cond (leb x 255) x 0

-- axis i as the words say it; what is missing is 0
abbrev pub axis_at : List ℕ → ℕ → Axis
axis_at words i =
    record {
      letter = get_or (map letter_in (counted words 0 24)) i 0;
      extent = get_or (counted words 8 25) i 0;
      stride = get_or (map (signed 32) (counted words 16 26)) i (pos 0);
    }

-- the layout that 28 words say; of a ninth letter, extent or stride only the count is kept
unfoldable pub flat_layout : List ℕ → Layout
flat_layout words =
    layout_of (map letter_in (counted words 0 24)) (counted words 8 25) (map (signed 32) (counted words 16 26)) (get_or words 27 0)

-- the contraction of three such layouts and the factors
abbrev pub flat_contraction : List ℕ → List ℕ → List ℕ → ℕ → ℕ → Contraction
flat_contraction a b d alpha beta = contraction_of (flat_layout a) (flat_layout b) (flat_layout d) alpha beta

-- and of four
abbrev pub flat_contraction_with_c : List ℕ → List ℕ → List ℕ → List ℕ → ℕ → ℕ → Contraction
flat_contraction_with_c a b c d alpha beta = contraction_with_c (flat_layout a) (flat_layout b) (flat_layout c) (flat_layout d) alpha beta
