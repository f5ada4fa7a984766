-- `both` meets its contract: of two refusals the lesser is the sooner one.
-- Assumes nothing.
use Rattle.std.proofs.Common.{rules}
use Rattle.tensor_answers.proofs.Sooner.{both_fail}
use Rattle.tensor_answers.proofs.tensor_answers.both.Goals as goal

pub returns-in-Err-Err : goal.returns-in-Err-Err
returns-in-Err-Err g c = let w = c.in-Err-Err in both_fail w.first w.second w.is-0 w.is-1 (search rules)
