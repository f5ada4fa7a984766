-- What the code's answers say, and what its functions may assume. Inside contracts only.
-- Assumes nothing.
use Rattle.std.specs.Prelude.{ℕ, cond, List, Option, Some, None, is_some, unwrap_or}
use Rattle.std.specs.Option.{option_map}
use Rattle.marks.specs.Marks.{letter_c}
use Rattle.records.specs.declared.records.TensorParts.{TensorParts}
use Rattle.records.specs.Records.{Reading, got, then, Tensor, layout_begins, tensor_records}
use Rattle.records.specs.RecordParts.{tensor_in, TensorHeld}
use Rattle.go.specs.declared.go.Go.{Go}
use Rattle.jobfile.specs.declared.reader.JobParts.{JobParts}
use Rattle.jobfile.specs.Format.{Job, job_if, job_of, job_with_c}

-- the job that D and `GO` make with the tensors before them
abbrev pub job_after : Tensor → Tensor → Option Tensor → Tensor → Go → Job
job_after a b (Some c) = job_with_c a b c
job_after a b None = job_of a b

module _ (file : List ℕ) where
  -- C's records where they are there, or nothing
  unfoldable pub c_at : ℕ → Reading (Option Tensor)
  c_at at = cond (layout_begins file letter_c at) (then (tensor_records file letter_c at) (λ c. got (Some c))) (got None at)

  abbrev pub c_in : Option TensorParts → Option Tensor
  c_in c = option_map (tensor_in file) c

  abbrev pub CHeld : Option TensorParts → Type 0
  CHeld (Some c) = TensorHeld file c
  CHeld None = Unit {0}

  -- the job, in which D stands for C where that is not named
  abbrev pub job_in : JobParts → Job
  job_in p =
      job_if (is_some p.c) (tensor_in file p.a) (tensor_in file p.b) (tensor_in file (unwrap_or p.c p.d)) (tensor_in file p.d) p.go

  pub record JobHeld (p : JobParts) : Type 0 where
    pub a : TensorHeld file p.a
    pub b : TensorHeld file p.b
    pub c : CHeld p.c
    pub d : TensorHeld file p.d
