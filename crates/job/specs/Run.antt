-- What the job program prints for a file.
-- Assumes nothing.
use Rattle.std.specs.Prelude.{ℕ, List}
use Rattle.words.specs.Lists.{tabulate}
use Rattle.limits.specs.Limits.{work_room}
use Rattle.tiled.specs.TileCall.{tile_call}
use Rattle.records.specs.Records.{Reading}
use Rattle.jobfile.specs.Format.{Job, read_job}
use Rattle.decode.specs.JobValues.{contraction_in, slices_in}
use Rattle.report.specs.Text.{refused_text}
use Rattle.job_call.specs.Answer.{call_text}

-- the text of the one tile call on a job's contraction and slices
unfoldable pub run_text : Job → List ℕ
run_text j =
    call_text (contraction_in j) j.go.sizes (slices_in j)
    (tile_call (contraction_in j) j.go.sizes (slices_in j) (tabulate work_room (λ k. 0)) j.go.done j.go.budget)

-- the text of a file that is refused while it is read, or of the call that it asks for
unfoldable pub reading_text : Reading Job → List ℕ
reading_text (Reading.file_refused number) = refused_text number
reading_text (Reading.got j end) = run_text j

-- the text that answers a file
unfoldable pub job_text : List ℕ → List ℕ
job_text file = reading_text (read_job file)
