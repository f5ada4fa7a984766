-- `put_answer` meets its contract: what `load` read is the front of the reader's bytes, and the text that answers that front answers all of them.
use Rattle.std.proofs.Common.{rules, length}
use Rattle.nezgrak_job.proofs.Answered.{answered}
use Rattle.nezgrak_job.proofs.put_answer.Goals as goal

pub returns-clause-value : goal.returns-clause-value
returns-clause-value g c = answered _ (length c.load.new.buf) _ _ _ _ (search rules) c.in_ok-n.ensures.bytes c.run.ensures.value.0 c.run.ensures.value.1
