-- `put_row` meets its contract. The invariant: the sums of the first c columns are put at row r's places, and all other words are as they were.
-- Assumes nothing.
use Rattle.few_rows.specs.FewSums.{RowPut}
use Rattle.few_rows.proofs.few.put_row.Given as goal

abbrev pub invariant-loop-c : goal.invariant-loop-c
invariant-loop-c l = RowPut l.r l.c l.sums l.initial.few l.few
