-- Laws for the functions that run a job: the text that answers a file. Each rewrites a definition by what the callees ensure.
-- Assumes nothing.
use mathlib.Core.Path.{◌≡◌, sym, ap, ◌∙◌}
use mathlib.Core.List.{List}
use Prim.Native.Nat.{ℕ, ◌≤◌}
use native.Mathlib.Omega.{arith}
use lib.ListN.{length}
use lib.Seq.{length-take-le}
use Rattle.io.specs.Counts.{IsPrefixLen}
use Rattle.std.specs.Prelude.{unwrap_or}
use Rattle.contraction.specs.declared.contraction.Contraction.{Contraction}
use Rattle.contraction.specs.Operands.{four}
use Rattle.records.specs.declared.records.TensorParts.{TensorParts}
use Rattle.records.specs.RecordParts.{words_of}
use Rattle.records.specs.Records.{got, file_refused}
use Rattle.jobfile.specs.declared.reader.JobParts.{JobParts}
use Rattle.jobfile.specs.Format.{read_job}
use Rattle.jobfile.specs.JobParts.{job_in}
use Rattle.decode.specs.JobValues.{contraction_in}
use Rattle.report.specs.Text.{refused_text}
use Rattle.report.specs.Written.{Begins}
use Rattle.report.proofs.Written.{written_room, put_as}
use Rattle.job_call.specs.TileText.{tile_text}
use Rattle.job.specs.Run.{run_text, reading_text, job_text}

-- the same text in other words, and its end counts bytes at the start of `out`
pub put_counted : (out : List ℕ) {r : ℕ} {out' text : List ℕ} (text' : List ℕ) → text ≡ text' → length out' ≡ length out → Begins out text r out'
    → Begins out text' r out' × IsPrefixLen r out'
put_counted out {r} {out'} text' e same p =
    let q = put_as out e p in
    let room : r ≤ length out' = omega (arith, q.0, written_room out text' (sym (ap length q.1) ∙ same)) in
    (q, (room, sym (length-take-le r out' room)))

-- the text of the call that a job asks for
pub job_text_lem : (file : List ℕ) (p : JobParts) {standing : TensorParts} {k : Contraction} {a b c d : List ℕ} → standing ≡ unwrap_or p.c p.d → k ≡ contraction_in (job_in file p)
    → a ≡ words_of file p.a.words → b ≡ words_of file p.b.words → c ≡ words_of file standing.words → d ≡ words_of file p.d.words
    → tile_text k p.go.sizes (four a b c d) p.go.done p.go.budget ≡ run_text (job_in file p)
unfolding run_text tile_text
job_text_lem file p es ek ea eb ec ed = rw (ek, ea, eb, ec, ed, es)

-- the text of what was read of a file
module _ (file : List ℕ) where
  pub got_text : (p : JobParts) {end : ℕ} → got (job_in file p) end ≡ read_job file → run_text (job_in file p) ≡ job_text file
  unfolding job_text reading_text
  got_text p reads = rw (← reads)

  pub unread_text : {n q : ℕ} → n ≡ q → file_refused q ≡ read_job file → refused_text n ≡ job_text file
  unfolding job_text reading_text
  unread_text e reads = rw (← reads, e)
