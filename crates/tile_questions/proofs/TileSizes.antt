-- Question 10: where it passes, each size of a tile is 1 or more and at most its limit.
-- Assumes nothing.
use mathlib.Core.Path.{◌≡◌}
use mathlib.Core.Bool.{true, ◌&&◌}
use Prim.Native.Nat.{ℕ, ◌≤◌, ◌<◌}
use borrow.Author.Tests.{leb-true}
use lib.Dec.{T, leb}
use Rattle.words.proofs.Lists.{T_true}
use Rattle.words.proofs.Sums.{and_split}
use Rattle.limits.specs.Limits.{rows_limit, cols_limit, depth_limit}
use Rattle.tiles.specs.declared.grid.Sizes.{Sizes}
use Rattle.tile_questions.specs.TileQuestions.{within, sizes_fit}

-- 1 up to a limit
abbrev pub Limited : ℕ → ℕ → Type 0
Limited n limit = (0 < n) × (n ≤ limit)

limited : (n limit : ℕ) → T (within n limit) → Limited n limit
limited n limit t = let h = and_split (leb 1 n) (leb n limit) t in (leb-true 1 n (T_true _ h.0), leb-true n limit (T_true _ h.1))

pub record SizesLimited (z : Sizes) : Type 0 where
  pub rows : Limited z.rows rows_limit
  pub cols : Limited z.cols cols_limit
  pub depth : Limited z.depth depth_limit

pub sizes_limited : (z : Sizes) → sizes_fit z ≡ true → SizesLimited z
unfolding sizes_fit
sizes_limited z fit =
    let x = and_split (within z.rows rows_limit) (within z.cols cols_limit && within z.depth depth_limit) (rw fit tt) in
    let y = and_split (within z.cols cols_limit) (within z.depth depth_limit) x.1 in
    record { rows = limited z.rows rows_limit x.0; cols = limited z.cols cols_limit y.0; depth = limited z.depth depth_limit y.1 }
