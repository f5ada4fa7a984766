-- What copying a tile of C leaves in D. Inside contracts only.
-- Assumes nothing.
use Rattle.std.specs.Prelude.{ℕ, List, slice_index}
use Rattle.words.specs.Loops.{overwrite}
use Rattle.block.specs.declared.block.Block.{Block}
use Rattle.block.specs.Places.{place_of}

-- D's words with the words c of C's tile, of its column b, put at the places of column b of D's tile. `from` is where the tile's batch count leaves C and `to`
-- where it leaves D; `rows` and `cols` are the tile's blocks in C, `down` and `across` in D
abbrev pub column_copied : List ℕ → ℕ → Block → Block → ℕ → Block → Block → ℕ → List ℕ → List ℕ
column_copied c from rows cols to down across b =
    overwrite down.count (place_of (place_of to across.offsets b) down.offsets)
    (λ a. slice_index c (place_of (place_of from cols.offsets b) rows.offsets a))
