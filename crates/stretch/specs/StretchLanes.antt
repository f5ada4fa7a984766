-- Lanes that begin as far apart as they are wide, and what the code that packs a stretch in them may assume. Inside contracts only.
-- Assumes nothing.
use Rattle.std.specs.Prelude.{ℕ, ◌+◌, ◌*◌, ◌<◌, ◌≤◌, List, length, slice_index}
use Rattle.words.specs.Words.{word}
use Rattle.words.specs.Loops.{each, Within}
use Rattle.words.specs.Stepped.{stepped}
use Rattle.words.specs.Fronts.{stored}
use Rattle.limits.specs.Limits.{block_limit, depth_limit}
use Rattle.stretch.specs.declared.stretch.Lanes.{Lanes}
use Rattle.stretch.specs.declared.stretch.Stretch.{Stretch}

-- in each of m lanes, which begin `width` apart, the n words v of the lane stored from place `to` of the first on
abbrev pub lanes_stored : ℕ → ℕ → ℕ → (ℕ → ℕ → ℕ) → ℕ → List ℕ → List ℕ
lanes_stored m n width v to = each m (λ q. stored n (v q) (to + width * q))

-- and so with the words of a stretch: in lane q from the first on the block begins at its start, and the stretch `offset` past it
abbrev pub stretch_stored : Lanes → Stretch → ℕ → List ℕ → List ℕ
stretch_stored b s =
    lanes_stored b.count s.len b.width (λ q k. slice_index b.src.now (stepped (word 64 (slice_index b.starts.now (b.first + q) + s.offset)) s.step k))

-- they are inside a slice of `out` words
pub record LanesRoom (m n width to out : ℕ) : Type 0 where
  pub each : (q : ℕ) → q < m → to + width * q + n ≤ out

-- a stretch can be packed in lanes: all that is read is inside their slice, and it is written to one of `out` words
pub record StretchIn (b : Lanes) (s : Stretch) (to out : ℕ) : Type 0 where
  pub some : 1 ≤ s.len
  pub few : s.len ≤ block_limit
  pub fits : s.len ≤ b.width  -- one place each
  pub any : 0 < b.count
  pub lanes : b.first + b.count ≤ depth_limit  -- there is a start for each lane
  pub reads : (q : ℕ) → q < b.count → Within s.len (stepped (word 64 (slice_index b.starts.now (b.first + q) + s.offset)) s.step) (length b.src.now)
  pub room : LanesRoom b.count s.len b.width to out
