-- `letter_columns` meets its contract. The invariant: the words are those that the first j turns leave.
-- Assumes nothing.
use Rattle.words.specs.Loops.{each}
use Rattle.tiles.specs.Grid.{cut_in}
use Rattle.letters.specs.Placed.{lettered}
use Rattle.letters.proofs.LetterLoops.{Turns}
use Rattle.letters.proofs.letters.letter_columns.Given as goal

abbrev pub invariant-loop-j : goal.invariant-loop-j
invariant-loop-j l = Turns (λ j. each (cut_in l.g).M (λ i. lettered l.p (cut_in l.g) l.t l.h i j)) l.initial.out l.j l.out
