-- The ten small cases of the rules that are proved, layers with nothing in them, and a named C, as one table, each quoted above its rows. Strides 1, beta 0,
-- alpha 1 unless given.
-- Assumes nothing.
use Rattle.std.specs.Prelude.{ℕ, ◌≡◌, List, [], ◌∷◌, ℤ, pos, negsuc}
use Rattle.layout.specs.declared.layout.Layout.{Layout}
use Rattle.layout.specs.Layout.{layout_of}
use Rattle.contraction.specs.declared.contraction.Contraction.{Contraction}
use Rattle.contraction.specs.Operands.{four, three, contraction_of, contraction_with_c}
use Rattle.questions.specs.QuestionCases.{scalar}
use Rattle.groups.specs.Groups.{Label}
use Rattle.folding.specs.Fold.{fold}
use Rattle.folding.specs.FoldCases.{lab}
use Rattle.meaning.specs.Meaning.{Slices, first_no, result}
use Rattle.block.specs.Block.{Step, even, scattered, classify}

-- a row of the table
pub data Edge : Type 0 where
  gives : Contraction → Slices → List ℕ → Edge  -- accepted, and D's words afterwards
  folds : List Label → List Label → Edge  -- the labels of a group, and the folded ones: letters, extents, and strides in every tensor
  spaced : List ℕ → Step → Edge  -- the step of a block of offsets
  asked : Contraction → Slices → ℕ → Edge  -- the number that questions 1 to 9 answer

abbrev pub Holds : Edge → Type 0
Holds (gives c w ws) = (first_no c w ≡ 0) × (result c w ≡ ws)
Holds (folds g folded) = fold g ≡ folded
Holds (spaced xs s) = classify xs ≡ s
Holds (asked c w n) = first_no c w ≡ n

-- one letter `i`; letters `i` and `j`
abbrev vector : ℕ → ℤ → ℕ → Layout
vector e s base = layout_of (105 ∷ []) (e ∷ []) (s ∷ []) base

abbrev matrix : ℕ → ℤ → ℕ → ℤ → Layout
matrix e s f u = layout_of (105 ∷ 106 ∷ []) (e ∷ f ∷ []) (s ∷ u ∷ []) 0

-- the letter `i` twice
abbrev diagonal : ℕ → ℤ → ℕ → ℤ → Layout
diagonal e s f u = layout_of (105 ∷ 105 ∷ []) (e ∷ f ∷ []) (s ∷ u ∷ []) 0

-- alpha 1, beta 0
abbrev plain : Layout → Layout → Layout → Contraction
plain a b d = contraction_of a b d 1 0

-- A and B without letters, and a layout for C; D is `i`, extent 2, stride 2; alpha 1, beta 2
abbrev starting : Layout → Contraction
starting c = contraction_with_c scalar scalar c (vector 2 (pos 2) 0) 1 2

abbrev pub edges : List Edge
edges =
    -- 1. No letters, A 3, B 5, D 7, alpha 2, beta 1: 37.
    gives (contraction_of scalar scalar scalar 2 1) (three (3 ∷ []) (5 ∷ []) (7 ∷ [])) (37 ∷ [])
    -- 2. A and B 4294967295: 1.
    ∷ gives (plain scalar scalar scalar) (three (4294967295 ∷ []) (4294967295 ∷ []) (0 ∷ [])) (1 ∷ [])
    -- 3. A `i` 1 2 3, B 10 without letters, D without: 60.
    ∷ gives (plain (vector 3 (pos 1) 0) scalar scalar) (three (1 ∷ 2 ∷ 3 ∷ []) (10 ∷ []) (0 ∷ [])) (60 ∷ [])
    -- 4. A 2, B 3, D `i` extent 2: 6 6.
    ∷ gives (plain scalar scalar (vector 2 (pos 1) 0)) (three (2 ∷ []) (3 ∷ []) (0 ∷ 0 ∷ [])) (6 ∷ 6 ∷ [])
    -- 5. A `ii` extents 2 2 strides 1 2 words 1 2 3 4, B 1: 5.
    ∷ gives (plain (diagonal 2 (pos 1) 2 (pos 2)) scalar scalar) (three (1 ∷ 2 ∷ 3 ∷ 4 ∷ []) (1 ∷ []) (0 ∷ [])) (5 ∷ [])
    -- 6. `i,i` to `i`, 2 3 and 5 7: 10 21.
    ∷ gives (plain (vector 2 (pos 1) 0) (vector 2 (pos 1) 0) (vector 2 (pos 1) 0)) (three (2 ∷ 3 ∷ []) (5 ∷ 7 ∷ []) (0 ∷ 0 ∷ [])) (10 ∷ 21 ∷ [])
    -- 7. A `i`, base 2, stride -1, words 1 2 3; B `i` 1 0 0; D scalar: 3.
    ∷ gives (plain (vector 3 (negsuc 0) 2) (vector 3 (pos 1) 0) scalar) (three (1 ∷ 2 ∷ 3 ∷ []) (1 ∷ 0 ∷ 0 ∷ []) (0 ∷ [])) (3 ∷ [])
    -- 8. Extents 2 3: strides 1 2 fold to extent 6, 1 3 don't fold. Here A's strides are those, B's 5 and 10, D's -3 and -6; then one tensor's second stride is
    -- another.
    ∷ folds (lab 105 2 (pos 1) (pos 5) (negsuc 2) ∷ lab 106 3 (pos 2) (pos 10) (negsuc 5) ∷ []) (lab 105 6 (pos 1) (pos 5) (negsuc 2) ∷ [])
    ∷ folds (lab 105 2 (pos 1) (pos 5) (negsuc 2) ∷ lab 106 3 (pos 3) (pos 10) (negsuc 5) ∷ [])
    (lab 105 2 (pos 1) (pos 5) (negsuc 2) ∷ lab 106 3 (pos 3) (pos 10) (negsuc 5) ∷ [])
    ∷ folds (lab 105 2 (pos 1) (pos 5) (negsuc 2) ∷ lab 106 3 (pos 2) (pos 0) (negsuc 5) ∷ [])
    (lab 105 2 (pos 1) (pos 5) (negsuc 2) ∷ lab 106 3 (pos 2) (pos 0) (negsuc 5) ∷ [])
    ∷ folds (lab 105 2 (pos 1) (pos 5) (negsuc 2) ∷ lab 106 3 (pos 2) (pos 10) (pos 6) ∷ [])
    (lab 105 2 (pos 1) (pos 5) (negsuc 2) ∷ lab 106 3 (pos 2) (pos 10) (pos 6) ∷ [])
    -- 9. Offsets 4 4 4 are even, step 0; 0 1 3 scattered.
    ∷ spaced (4 ∷ 4 ∷ 4 ∷ []) (even 0)
    ∷ spaced (0 ∷ 1 ∷ 3 ∷ []) scattered
    -- 10. D extents 3 2, strides 2 3: refused 9, though no words meet; strides 1 3 accepted. Stride 0: 9 at extent 2, accepted at 1.
    ∷ asked (plain scalar scalar (matrix 3 (pos 2) 2 (pos 3))) (three (1 ∷ []) (1 ∷ []) (0 ∷ 0 ∷ 0 ∷ 0 ∷ 0 ∷ 0 ∷ 0 ∷ 0 ∷ [])) 9
    ∷ asked (plain scalar scalar (matrix 3 (pos 1) 2 (pos 3))) (three (1 ∷ []) (1 ∷ []) (0 ∷ 0 ∷ 0 ∷ 0 ∷ 0 ∷ 0 ∷ [])) 0
    ∷ asked (plain scalar scalar (vector 2 (pos 0) 0)) (three (1 ∷ []) (1 ∷ []) (0 ∷ [])) 9
    ∷ asked (plain scalar scalar (vector 1 (pos 0) 0)) (three (1 ∷ []) (1 ∷ []) (0 ∷ [])) 0
    -- 11. A `i` extent 0 without words, base 5, B 10, D 7, both without letters, beta 3: 21. A and B `i` extent 0, D `j` extent 2, 5 6, beta 3: 15 18.
    ∷ gives (contraction_of (vector 0 (pos 1) 5) scalar scalar 1 3) (three [] (10 ∷ []) (7 ∷ [])) (21 ∷ [])
    ∷ gives (contraction_of (vector 0 (pos 1) 0) (vector 0 (pos 1) 0) (layout_of (106 ∷ []) (2 ∷ []) (pos 1 ∷ []) 0) 1 3)
    (three (1 ∷ []) [] (5 ∷ 6 ∷ [])) (15 ∷ 18 ∷ [])
    -- 12. D `ij` extents 3 0, strides 0 0, base 9, words 4 5: 4 5. `i,i` to `i`, extent 0, D 8: 8.
    ∷ gives (plain scalar scalar (layout_of (105 ∷ 106 ∷ []) (3 ∷ 0 ∷ []) (pos 0 ∷ pos 0 ∷ []) 9)) (three (2 ∷ []) (3 ∷ []) (4 ∷ 5 ∷ [])) (4 ∷ 5 ∷ [])
    ∷ gives (plain (vector 0 (pos 1) 0) (vector 0 (pos 1) 0) (vector 0 (pos 1) 0)) (three [] [] (8 ∷ [])) (8 ∷ [])
    -- 13. Extent 65,537: 4.
    ∷ asked (plain (vector 65537 (pos 0) 0) scalar scalar) (three (1 ∷ []) (1 ∷ []) (0 ∷ [])) 4
    -- 14. A 2, B 3, D `i` extent 2 stride 2, words 7 8 9, beta 2. C `i` base 1 stride -1, words 10 20: 46 8 26. C stride 0, word 5: 16 8 16. C `ii` strides
    -- 1 2, words 1 2 3 4: 8 8 14. C with D's words and layout: what is left without C.
    ∷ gives (starting (vector 2 (negsuc 0) 1)) (four (2 ∷ []) (3 ∷ []) (10 ∷ 20 ∷ []) (7 ∷ 8 ∷ 9 ∷ [])) (46 ∷ 8 ∷ 26 ∷ [])
    ∷ gives (starting (vector 2 (pos 0) 0)) (four (2 ∷ []) (3 ∷ []) (5 ∷ []) (7 ∷ 8 ∷ 9 ∷ [])) (16 ∷ 8 ∷ 16 ∷ [])
    ∷ gives (starting (diagonal 2 (pos 1) 2 (pos 2))) (four (2 ∷ []) (3 ∷ []) (1 ∷ 2 ∷ 3 ∷ 4 ∷ []) (7 ∷ 8 ∷ 9 ∷ [])) (8 ∷ 8 ∷ 14 ∷ [])
    ∷ gives (starting (vector 2 (pos 2) 0)) (four (2 ∷ []) (3 ∷ []) (7 ∷ 8 ∷ 9 ∷ []) (7 ∷ 8 ∷ 9 ∷ [])) (20 ∷ 8 ∷ 24 ∷ [])
    ∷ gives (contraction_of scalar scalar (vector 2 (pos 2) 0) 1 2) (three (2 ∷ []) (3 ∷ []) (7 ∷ 8 ∷ 9 ∷ [])) (20 ∷ 8 ∷ 24 ∷ [])
    -- 15. C without letters, or with a letter more: 30.
    ∷ asked (starting scalar) (four (2 ∷ []) (3 ∷ []) (5 ∷ []) (7 ∷ 8 ∷ 9 ∷ [])) 30
    ∷ asked (starting (matrix 2 (pos 0) 1 (pos 0))) (four (2 ∷ []) (3 ∷ []) (5 ∷ []) (7 ∷ 8 ∷ 9 ∷ [])) 30
    ∷ []
