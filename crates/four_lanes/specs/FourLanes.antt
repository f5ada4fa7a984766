-- Sums of four runs of outputs that share lanes of A. Inside contracts only.
-- Assumes nothing.
use Rattle.std.specs.Prelude.{◌≡◌, ℕ, zero, suc, List, length}
use Rattle.words.specs.Stepped.{stepped}
use Rattle.limits.specs.Limits.{block_limit}
use Rattle.dots.specs.Dot.{dot}
use Rattle.side_sums.specs.SideSums.{side_run, Added}

-- of four things, that of run q
abbrev pub of_run : {X : Type 0} → X → X → X → X → ℕ → X
of_run x y z w zero = x
of_run x y z w (suc zero) = y
of_run x y z w (suc (suc zero)) = z
of_run x y z w (suc (suc (suc q))) = w

-- to each of the first n sums of a run of outputs is added what `len` depth counts give: A's words stand one after the other along the outputs and are s apart
-- along the depth, and B's, t apart, are the same for all outputs
abbrev pub LanesAdded : ℕ → ℕ → ℕ → ℕ → List ℕ → ℕ → ℕ → List ℕ → List ℕ → List ℕ → Type 0
LanesAdded n len i s a j t b = Added n (λ r. dot len (side_run i 1 s r) a (stepped j t) b)

-- the sums of four runs, each a block's
pub record Blocks (x y z w : List ℕ) : Type 0 where
  pub first : length x ≡ block_limit
  pub second : length y ≡ block_limit
  pub third : length z ≡ block_limit
  pub fourth : length w ≡ block_limit
