-- A block of offsets, as address words: even with a step when each is the one before plus the step, else scattered.
-- A block of one or none is even with step 0. A count above 64 is read as 64.
-- Assumes nothing.
use Rattle.std.specs.Prelude.{ℕ, ◌+◌, ◌-◌, ◌^◌, min, Bool, true, cond, ◌&&◌, List, [], ◌∷◌, ◌==◌}
use Rattle.words.specs.Lists.{first_of}
use Rattle.words.specs.Words.{word}
use Rattle.limits.specs.Limits.{block_limit}

pub data Step : Type 0 where
  even : ℕ → Step
  scattered : Step

-- from x on, each offset is the one before plus s
abbrev pub steps : ℕ → ℕ → List ℕ → Bool
steps s x [] = true
steps s x (y ∷ ys) = y == word 64 (x + s) && steps s y ys

-- how far y is above x, as an address word
abbrev pub step_from : ℕ → ℕ → ℕ
step_from x y = word 64 (y + (2 ^ 64 - x))

unfoldable pub classify : List ℕ → Step
classify [] = even 0
classify (x ∷ []) = even 0
classify (x ∷ y ∷ ys) = cond (steps (step_from x y) x (y ∷ ys)) (even (step_from x y)) scattered

-- of an array of offsets those in use: a count above the limit is read as the limit
abbrev pub in_use : ℕ → List ℕ → List ℕ
in_use count offsets = first_of (min count block_limit) 0 offsets

-- the step of a block with that many of the offsets in use
unfoldable pub block_step : ℕ → List ℕ → Step
block_step count offsets = classify (in_use count offsets)
