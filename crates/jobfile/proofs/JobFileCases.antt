-- What is read of five job files, by computation.
-- Assumes nothing.
use mathlib.Core.Path.{refl}
use Rattle.layout.specs.Layout.{axes_of, layout_of, axes}
use Rattle.little_endian.specs.Bytes.{little, numbers}
use Rattle.records.specs.Records.{layout_at, layout_record, words_record, words_after, tensor_records}
use Rattle.go.specs.Record.{go_at, go_record}
use Rattle.jobfile.specs.Format.{from_go, from_d, from_c, from_b, read_job}
use Rattle.jobfile.specs.JobFileCases.{JobFileCases}

pub job_file_cases : JobFileCases
unfolding axes_of layout_of axes little numbers layout_at layout_record words_record words_after tensor_records go_at go_record from_go from_d from_c from_b read_job
job_file_cases =
    record {
      example = refl;
      skewed = refl;
      empty_depth = refl;
      empty_output = refl;
      empty = refl;
      longer = refl;
      with_a_c = refl;
      c_without_words = refl;
      c_without_layout = refl;
      c_in_bytes = refl;
      c_again = refl;
      c_cut_off = refl;
      c_no_rank = refl;
      c_count_4097 = refl;
      c_count_4096 = refl;
    }
