-- The job file, read front to back: the records in their order, and the number that refuses a file.
-- Assumes nothing.
use Rattle.std.specs.Prelude.{ℕ, Bool, true, false, cond, List, eqb, length}
use Rattle.marks.specs.Marks.{letter_a, letter_b, letter_c, letter_d}
use Rattle.records.specs.Records.{Reading, got, check, then, Tensor, layout_begins, tensor_records}
use Rattle.go.specs.declared.go.Go.{Go}
use Rattle.go.specs.Record.{go_record}

pub record Job : Type 0 where
  pub a : Tensor
  pub b : Tensor
  pub c : Tensor
  pub d : Tensor
  pub named : Bool
  pub go : Go

-- the job of these tensors, with C where it is named; without C, where D stands for it; with C
abbrev pub job_if : Bool → Tensor → Tensor → Tensor → Tensor → Go → Job
job_if named a b c d go = record { a = a; b = b; c = c; d = d; named = named; go = go }

abbrev pub job_of : Tensor → Tensor → Tensor → Go → Job
job_of a b d = job_if false a b d d

abbrev pub job_with_c : Tensor → Tensor → Tensor → Tensor → Go → Job
job_with_c = job_if true

module _ (file : List ℕ) where
  -- after `GO` the file ends
  abbrev pub at_end : Job → ℕ → Reading Job
  at_end job end = check (eqb end (length file)) 22 (got job end)

  -- what is left once some tensors are read: the others in turn, then `GO`, and after it the end. `job` says which job they make
  unfoldable pub from_go : (Go → Job) → ℕ → Reading Job
  from_go job at = then (go_record file at) (λ go. at_end (job go))

  unfoldable pub from_d : (Tensor → Go → Job) → ℕ → Reading Job
  from_d job at = then (tensor_records file letter_d at) (λ d. from_go (job d))

  -- C's records may be left out, both of them
  unfoldable pub from_c : Tensor → Tensor → ℕ → Reading Job
  from_c a b at = cond (layout_begins file letter_c at) (then (tensor_records file letter_c at) (λ c. from_d (job_with_c a b c))) (from_d (job_of a b) at)

  unfoldable pub from_b : Tensor → ℕ → Reading Job
  from_b a at = then (tensor_records file letter_b at) (from_c a)

  unfoldable pub read_job : Reading Job
  read_job = then (tensor_records file letter_a 0) from_b
