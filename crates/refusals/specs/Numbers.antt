-- The number of each question, which a call answers where that question refuses.
-- Assumes nothing.
use Rattle.std.specs.Prelude.{ℕ, Result, Ok, Err}
use Rattle.refusals.specs.declared.refusal.Refusal.{Refusal}
use Rattle.refusals.specs.declared.refusal.Refusal.TheVariants.{Rank, Counts, Letters, Extents, Sizes, ExtentsAgree, LettersOfC, Points, Inside, Apart}
use Rattle.refusals.specs.declared.refusal.Refusal.TheVariants.{TileSizes, WorkRoom, TilesDone, Index, Mark, CutShort, BytesBehind, WordCount, Lags, Samples}

abbrev pub number : Refusal → ℕ
-- a layout
number Rank = 1
number Counts = 2
number Letters = 3
number Extents = 4
number Sizes = 5
-- the labels
number ExtentsAgree = 6
number LettersOfC = 30
number Points = 7
-- the entries
number Inside = 8
number Apart = 9
-- the tiles
number TileSizes = 10
number WorkRoom = 11
number TilesDone = 12
number Index = 13
-- a job file
number Mark = 20
number CutShort = 21
number BytesBehind = 22
number WordCount = 23
-- a delay call
number Lags = 31
number Samples = 32

-- the number that an answer gives: 0 where no question refused
abbrev pub status : {T : Type 0} → Result T Refusal → ℕ
status (Ok x) = 0
status (Err refusal) = number refusal
