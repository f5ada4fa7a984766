-- `run` meets its contract: what was read of the file is a job, whose text is put, or a number that refuses it. The array keeps its length, so the text counts bytes of it.
-- Assumes nothing.
use Rattle.report.proofs.Written.{put_as}
use Rattle.job.proofs.Running.{got_text, unread_text}
use Rattle.job.proofs.run.run.Goals as goal

pub returns-in-Ok-clause-value : goal.returns-in-Ok-clause-value
returns-in-Ok-clause-value c = put_as c.args.out.now (got_text c.args.file.now c.in-Ok.parts c.in-Ok.ensures.same) c.put_job.ensures

pub returns-in-Err-clause-value : goal.returns-in-Err-clause-value
returns-in-Err-clause-value c = put_as c.args.out.now (unread_text c.args.file.now c.from.ensures c.in-Err.ensures.same) c.put_refused.ensures
