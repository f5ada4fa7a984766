-- The letters that the job program prints beside D's words.
-- Assumes nothing.
use Rattle.std.specs.Prelude.{ℕ}
use Rattle.tiles.specs.Progress.{State, old, part, final}

-- the letter of a state: `o`, `p`, `f`
abbrev pub letter_of : State → ℕ
letter_of old = 111
letter_of part = 112
letter_of final = 102

-- `-`, for a word outside the layout
abbrev pub outside : ℕ
outside = 45
