-- The front of a list, and words stored one after the other. Inside contracts only.
-- Assumes nothing.
use Rattle.std.specs.Prelude.{ℕ, ◌+◌, List, ◌++◌, drop}
use Rattle.words.specs.Lists.{tabulate}
use Rattle.words.specs.Loops.{overwrite}

-- the words v 0, v 1, .., n of them, stored from `to` on
unfoldable pub stored : ℕ → (ℕ → ℕ) → ℕ → List ℕ → List ℕ
stored n v to = overwrite n (λ r. to + r) v

-- a list whose first n words are f 0, f 1, .., the rest unchanged
unfoldable pub front : {X : Type 0} → ℕ → (ℕ → X) → List X → List X
front n f xs = tabulate n f ++ drop n xs
