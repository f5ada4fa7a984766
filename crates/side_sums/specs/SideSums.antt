-- What the loops leave that sum a block of outputs side by side, by address words. Inside contracts only.
-- Assumes nothing.
use Rattle.std.specs.Prelude.{◌≡◌, ℕ, ◌+◌, ◌<◌, List, length, slice_index}
use Rattle.words.specs.Words.{word}
use Rattle.words.specs.Stepped.{stepped}
use Rattle.contraction.specs.declared.contraction.Operand.{Operand}
use Rattle.groups.specs.Groups.{Label}
use Rattle.dots.specs.Dot.{RunReadable}
use Rattle.sums.specs.Walk.{Readable}
use Rattle.side_sums.specs.declared.side.Side.{Side}

-- the address word at depth count v of a run, for output r: outputs are `along` apart, depth counts `step`
abbrev pub side_run : ℕ → ℕ → ℕ → ℕ → ℕ → ℕ
side_run from along step r = stepped (stepped from along r) step

-- the address words of a tensor along a run of depth counts, for output r, and for any output where it stands still
abbrev pub side_of : Side → ℕ → ℕ → ℕ
side_of s = side_run s.from s.along s.step

abbrev pub still_of : Side → ℕ → ℕ
still_of s = stepped s.from s.step

-- the first n of the code's sums are f 0, f 1, .., modulo 2^32
pub record Sums (n : ℕ) (f : ℕ → ℕ) (sums : List ℕ) : Type 0 where
  pub each : (r : ℕ) → r < n → word 32 (slice_index sums r) ≡ word 32 (f r)

-- f r is added to each of the first n sums, modulo 2^32
pub record Added (n : ℕ) (f : ℕ → ℕ) (old new : List ℕ) : Type 0 where
  pub len : length new ≡ length old
  pub each : (r : ℕ) → r < n → word 32 (slice_index new r) ≡ word 32 (slice_index old r + f r)

-- ---- what the loops may assume, for n outputs

-- along a run of `len` depth counts, at i r in A and at j r in B for output r, all that is read is inside
pub record RunsInside (n len : ℕ) (i j : ℕ → ℕ → ℕ) (a b : List ℕ) : Type 0 where
  pub each : (r : ℕ) → r < n → RunReadable len (i r) (j r) a b

-- from the address words of output r, all that the sum over the depth group g reads is inside
pub record AllReadable (n : ℕ) (g : List Label) (a b : List ℕ) (at : ℕ → Operand → ℕ) : Type 0 where
  pub each : (r : ℕ) → r < n → Readable g a b (at r)
