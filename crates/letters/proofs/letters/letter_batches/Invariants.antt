-- `letter_batches` meets its contract. The invariant: the words are those that the first h turns leave. Without a tile there is
-- no output index, so that all turns would leave the words as they are.
-- Assumes nothing.
use Rattle.tiles.specs.Grid.{cut_in}
use Rattle.letters.specs.Placed.{column_letters}
use Rattle.letters.proofs.LetterLoops.{Turns}
use Rattle.letters.proofs.letters.letter_batches.Given as goal

abbrev pub invariant-loop-h : goal.invariant-loop-h
invariant-loop-h l = Turns (column_letters l.p (cut_in l.g) l.t) l.initial.out l.h l.out
