-- `put_job` meets its contract: the fronts of the arrays hold the words that were read, and the text is that of the call on them.
-- Assumes nothing.
use Rattle.report.proofs.Written.{put_as}
use Rattle.job.proofs.Running.{job_text_lem}
use Rattle.job.proofs.run.put_job.Goals as goal

pub returns : goal.returns
returns c =
    put_as c.args.out.now
    (job_text_lem c.args.file.now c.args.job c.unwrap_or.ensures c.contraction_in-k.ensures c.job_words-a.ensures.words c.job_words-b.ensures.words
    c.job_words-c.ensures.words c.job_words-d.ensures.words)
    c.put_call.ensures
