-- What a packed tile leaves in D. Inside contracts only.
-- Assumes nothing.
use Rattle.std.specs.Prelude.{ℕ, ◌+◌, ◌*◌, List}
use Rattle.words.specs.Words.{word}
use Rattle.words.specs.Loops.{each, put}
use Rattle.block.specs.Places.{place_of}
use Rattle.kernel.specs.Kernel.{column_sum}
use Rattle.accumulate.specs.declared.accumulate.Factors.{Factors}
use Rattle.accumulate.specs.Added.{added_to}
use Rattle.columns.specs.declared.column_stores.Packing.{Packing}

-- the sum of row r and column c of a packed tile: packed B begins at rows × depth
unfoldable pub tile_sum : List ℕ → Packing → ℕ → ℕ → ℕ
tile_sum work p r c = column_sum work p.rows (p.rows * p.depth + c) p.cols p.filled r

-- D's words with the sums of the tile's column c added at the places of its rows; `from` is where the tile's batch count leaves D
abbrev pub column_stored : List ℕ → Packing → Factors → ℕ → List ℕ → List ℕ → ℕ → ℕ → List ℕ → List ℕ
column_stored work p f from columns rows count c =
    each count (λ r. put (added_to f (word 32 (tile_sum work p r c))) (place_of (place_of from columns c) rows r))
