-- `letter_rows` meets its contract. The invariant: the words are those that the letters of the first i row counts leave, each put where the code's sum
-- of address words says, which is the plan's place.
-- Assumes nothing.
use Rattle.tiles.specs.Grid.{cut_in}
use Rattle.letters.proofs.LetterLoops.{Turns, row_letter}
use Rattle.letters.proofs.letters.letter_rows.Given as goal

abbrev pub invariant-loop-i : goal.invariant-loop-i
invariant-loop-i l = Turns (row_letter (cut_in l.g) l.t l.h l.j l.row l.from) l.initial.out l.i l.out
