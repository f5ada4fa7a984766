-- `add_row` meets its contract: the word at the row's place is read, and what `added` makes of it stored there.
-- Assumes nothing.
use Rattle.words.specs.Loops.{put}
use Rattle.accumulate.proofs.accumulate.add_row.Goals as goal

pub returns : goal.returns
unfolding put
returns c = rw (← c.added.ensures)
