-- Laws for C, which a job may leave out, where D stands for it.
-- Assumes nothing.
use Prim.Native.Nat.{ℕ}
use mathlib.Core.Path.{◌≡◌, refl}
use mathlib.Core.Bool.{Bool, true, false}
use mathlib.Core.List.{List}
use Rattle.std.specs.Prelude.{Option, Some, None, is_some, unwrap_or, cond}
use Rattle.marks.specs.Marks.{letter_c}
use Rattle.records.specs.declared.records.TensorParts.{TensorParts}
use Rattle.records.specs.Records.{Reading, got, file_refused, then, Tensor, layout_begins, tensor_records}
use Rattle.records.specs.RecordParts.{tensor_in}
use Rattle.go.specs.declared.go.Go.{Go}
use Rattle.jobfile.specs.Format.{job_if, from_d, from_c}
use Rattle.jobfile.specs.JobParts.{job_after, c_at, c_in}

-- the job with it is the one that D and `GO` make with the tensors before them
pub stands_in : (file : List ℕ) (c : Option TensorParts) (d : TensorParts) (a b : Tensor) (go : Go)
    → job_if (is_some c) a b (tensor_in file (unwrap_or c d)) (tensor_in file d) go ≡ job_after a b (c_in file c) (tensor_in file d) go
stands_in file (Some c) d a b go = refl
stands_in file None d a b go = refl

-- a reading where a test says so, or a value without reading, and then the rest: either goes on to it
then_either : {X Y Z : Type 0} (test : Bool) (read : Reading X) (made : X → Y) (default : Y) (at : ℕ) (rest : Y → ℕ → Reading Z)
    → then (cond test (then read (λ x. got (made x))) (got default at)) rest ≡ cond test (then read (λ x. rest (made x))) (rest default at)
then_either true (got x next) made default at rest = refl
then_either true (file_refused number) made default at rest = refl
then_either false read made default at rest = refl

-- C's records where they are there, and then D's
pub c_then_d : (file : List ℕ) (a b : Tensor) (at : ℕ) → then (c_at file at) (λ c. from_d file (job_after a b c)) ≡ from_c file a b at
unfolding c_at from_c
c_then_d file a b at = then_either (layout_begins file letter_c at) (tensor_records file letter_c at) _ _ at _
