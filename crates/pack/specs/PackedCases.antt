-- A packed block that ends short of its width and of its depth.
-- Assumes nothing.
use Rattle.std.specs.Prelude.{◌+◌, ◌*◌, ◌≡◌, [], ◌∷◌}
use Rattle.words.specs.Lists.{tabulate}
use Rattle.pack.specs.Packed.{packed_word}

pub record PackedCases : Type 0 where
  -- "row r and depth d at r + rows × d", "Places past the edge hold 0": 2 of 3 rows, 2 of 3 depth counts, row r and depth d being 10 × d + r + 5
  pub edge : tabulate 9 (packed_word 3 2 2 (λ r d. 10 * d + r + 5)) ≡ 5 ∷ 6 ∷ 0 ∷ 15 ∷ 16 ∷ 0 ∷ 0 ∷ 0 ∷ 0 ∷ []
