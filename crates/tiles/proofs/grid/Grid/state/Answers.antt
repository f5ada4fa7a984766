-- `state` meets its contract: the tiles that reach the index are those of its column block and row block, one for each panel, and their numbers go
-- up with the panel. So none is done while t is at most the first's number, all are once t is above the last's, and else some are.
-- Assumes nothing.
use mathlib.Core.Path.{sym}
use Prim.Native.Nat.{ℕ, ◌/◌, ◌<◌}
use native.Mathlib.Omega.{arith}
use Rattle.tiles.specs.declared.grid.Grid.{Grid}
use Rattle.tiles.specs.Cut.{MB, NB}
use Rattle.tiles.specs.Grid.{cut_in, Counted}
use Rattle.tiles.proofs.Cuts.{block_lt}
use Rattle.tiles.proofs.Numbering.{KB_pos}
use Rattle.tiles.proofs.States.{state_old, state_part, state_final}
use Rattle.tiles.proofs.grid.Grid.state.Goals as goal

-- the row block and the column block of a count are blocks of the cut
module _ {g : Grid} (k : Counted g) where
  row_in : {i : ℕ} → i < (cut_in g).M → i / g.sizes.rows < MB (cut_in g)
  unfolding MB
  row_in l = block_lt k.fits.rows_pos l

  column_in : {j : ℕ} → j < (cut_in g).N → j / g.sizes.cols < NB (cut_in g)
  unfolding NB
  column_in l = block_lt k.fits.cols_pos l

pub number-requires : goal.number-requires
number-requires c =
    let k = c.requires.0 in
    (k, c.requires.1, column_in k c.requires.3, KB_pos (cut_in c.args.self), row_in k c.requires.2)

pub returns-then-t-number : goal.returns-then-t-number
returns-then-t-number c =
    sym (state_old (cut_in c.args.self) c.args.h c.args.i c.args.j (rw c.number.ensures at c.if-t-number.true))

pub overflow_sub-panels : goal.overflow_sub-panels
overflow_sub-panels c =
    omega (arith, c.requires.0.panels, KB_pos (cut_in c.args.self))

pub number-requires-2 : goal.number-requires-2
number-requires-2 c =
    let k = c.requires.0 in
    (k, c.requires.1, column_in k c.requires.3, omega (arith, k.panels, KB_pos (cut_in c.args.self)), row_in k c.requires.2)

pub returns-then-number-t : goal.returns-then-number-t
returns-then-number-t c =
    sym (state_final (cut_in c.args.self) c.args.h c.args.i c.args.j (rw (c.number-2.ensures, c.requires.0.panels) at c.if-number-t.true))

pub returns : goal.returns
returns c =
    sym
    (state_part (cut_in c.args.self) c.args.h c.args.i c.args.j
    (rw c.number.ensures at c.if-t-number.false)
    (rw (c.number-2.ensures, c.requires.0.panels) at c.if-number-t.false))
