-- What is read of a tensor's records, and what refuses them, by computation.
-- Assumes nothing.
use mathlib.Core.Path.{refl}
use Rattle.layout.specs.Layout.{axes_of, layout_of, axes}
use Rattle.little_endian.specs.Bytes.{little, numbers}
use Rattle.records.specs.Records.{layout_at, layout_record, words_record}
use Rattle.records.specs.RecordCases.{RecordCases}

pub record_cases : RecordCases
unfolding axes_of layout_of axes little numbers layout_at layout_record words_record
record_cases =
    record {
      layout = refl;
      words = refl;
      bytes = refl;
      no_mark = refl;
      other_mark = refl;
      words_first = refl;
      layout_again = refl;
      no_rank = refl;
      rank_9 = refl;
      rank_8 = refl;
      no_count = refl;
      count_4097 = refl;
      count_4096 = refl;
    }
