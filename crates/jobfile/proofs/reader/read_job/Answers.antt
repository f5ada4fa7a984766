-- `read_job` meets its contract: what each tensor's records read as goes on to the next, and what `GO` reads as to the end, or one of them refuses the file.
-- Assumes nothing.
use mathlib.Core.Path.{refl, ap}
use Prim.Native.Nat.{ℕ}
use mathlib.Core.List.{List}
use borrow.Author.Tests.{eq-eqb, ne_eqb}
use Rattle.std.specs.Prelude.{Option}
use Rattle.marks.specs.Marks.{letter_a, letter_b, letter_d}
use Rattle.records.specs.declared.records.TensorParts.{TensorParts}
use Rattle.records.specs.Records.{Reading, got, then, tensor_records}
use Rattle.records.specs.RecordParts.{tensor_in, TensorHeld, ReadAs}
use Rattle.records.proofs.Reading.{yes, no, refused, goes_on, stops, passed_on}
use Rattle.jobfile.specs.declared.reader.JobParts.{JobParts}
use Rattle.jobfile.specs.Format.{from_go, from_d, from_b, read_job}
use Rattle.jobfile.specs.JobParts.{job_after, c_at, c_in, CHeld, job_in, JobHeld}
use Rattle.jobfile.proofs.Standing.{stands_in, c_then_d}
use Rattle.jobfile.proofs.reader.read_job.Goals as goal

-- A and B are read, and the code goes on to C; then C, or nothing, and D are, and it goes on to `GO`
module _ (file : List ℕ) (read : Reading JobParts) {a b : TensorParts} {i j : ℕ} (ea : ReadAs tensor_in TensorHeld file (got a i) (tensor_records file letter_a 0))
    (eb : ReadAs tensor_in TensorHeld file (got b j) (tensor_records file letter_b i)) where
  to_c : ReadAs job_in JobHeld file read (then (c_at file j) (λ c. from_d file (job_after (tensor_in file a) (tensor_in file b) c)))
      → ReadAs job_in JobHeld file read (read_job file)
  unfolding read_job from_b
  to_c f = goes_on _ _ ea (goes_on _ _ eb (rw (← c_then_d file (tensor_in file a) (tensor_in file b) j) f))

  to_go : {c : Option TensorParts} {d : TensorParts} {k l : ℕ} → ReadAs c_in CHeld file (got c k) (c_at file j)
      → ReadAs tensor_in TensorHeld file (got d l) (tensor_records file letter_d k)
      → ReadAs job_in JobHeld file read (from_go file (job_after (tensor_in file a) (tensor_in file b) (c_in file c) (tensor_in file d)) l)
      → ReadAs job_in JobHeld file read (read_job file)
  unfolding from_d
  to_go ec ed f = to_c (goes_on _ _ ec (goes_on _ _ ed f))

pub returns-in_err-a : goal.returns-in_err-a
unfolding read_job
returns-in_err-a c = stops _ _ c.in_err-a.ensures (passed_on _ c.from_residual.ensures.1 refl)

pub returns-in_err-b : goal.returns-in_err-b
unfolding read_job from_b
returns-in_err-b c = goes_on _ _ c.in_ok-a.ensures (stops _ _ c.in_err-b.ensures (passed_on _ c.from_residual-in_err-b.ensures.1 refl))

pub returns-in_err-c : goal.returns-in_err-c
returns-in_err-c c =
    to_c _ _ c.in_ok-a.ensures c.in_ok-b.ensures (stops _ _ c.in_err-c.ensures (passed_on _ c.from_residual-in_err-c.ensures.1 refl))

pub returns-in_err-d : goal.returns-in_err-d
unfolding from_d
returns-in_err-d c =
    to_c _ _ c.in_ok-a.ensures c.in_ok-b.ensures
    (goes_on _ _ c.in_ok-c.ensures (stops _ _ c.in_err-d.ensures (passed_on _ c.from_residual-in_err-d.ensures.1 refl)))

pub returns-in_err-go : goal.returns-in_err-go
unfolding from_go
returns-in_err-go c =
    to_go _ _ c.in_ok-a.ensures c.in_ok-b.ensures c.in_ok-c.ensures c.in_ok-d.ensures
    (stops _ _ c.in_err-go.ensures (passed_on _ c.from_residual-in_err-go.ensures.1 refl))

pub returns-then-end-file : goal.returns-then-end-file
unfolding from_go
returns-then-end-file c =
    to_go _ _ c.in_ok-a.ensures c.in_ok-b.ensures c.in_ok-c.ensures c.in_ok-d.ensures
    (goes_on _ _ c.in_ok-go.ensures (no _ (ne_eqb _ _ c.if-end-file.true) refused))

pub returns : goal.returns
unfolding from_go
returns c =
    let a = c.in_ok-a.ensures in
    let b = c.in_ok-b.ensures in
    let c' = c.in_ok-c.ensures in
    let d = c.in_ok-d.ensures in
    let go = c.in_ok-go.ensures in
    to_go _ _ a b c' d
    (goes_on _ _ go
    (yes _ (eq-eqb _ _ c.if-end-file.false)
    (record {
      same = ap (λ job. got job c.in_ok-go.end.at) (stands_in c.args.file.now c.in_ok-c.c c.in_ok-d.d _ _ _);
      sound = (record { a = a.sound.0; b = b.sound.0; c = c'.sound.0; d = d.sound.0 }, go.sound.1);
    })))
