-- The record `GO` of a job file: what it holds, or the number that refuses it.
-- Assumes nothing.
use Rattle.std.specs.Prelude.{ℕ, ◌+◌, List}
use Rattle.little_endian.specs.Bytes.{has, little}
use Rattle.marks.specs.Marks.{is_go}
use Rattle.records.specs.Records.{Reading, got, check, kind_at}
use Rattle.go.specs.declared.go.Go.{Go}

module _ (file : List ℕ) where
  -- what `GO` holds: mark (2), alpha, beta (4 each), rows, cols, depth (2 each), tiles done, budget (4 each)
  unfoldable pub go_at : ℕ → Go
  go_at at =
      record {
        alpha = little file 4 (at + 2);
        beta = little file 4 (at + 6);
        sizes = record { rows = little file 2 (at + 10); cols = little file 2 (at + 12); depth = little file 2 (at + 14) };
        done = little file 4 (at + 16);
        budget = little file 4 (at + 20);
      }

  -- the record `GO`
  unfoldable pub go_record : ℕ → Reading Go
  go_record at =
      check (has file at 2) 21
      (check (is_go (kind_at file at)) 20
      (check (has file at 24) 21
      (got (go_at at) (at + 24))))
