-- The fields of `GO`, and what refuses it, by computation.
-- Assumes nothing.
use mathlib.Core.Path.{refl}
use Rattle.little_endian.specs.Bytes.{little}
use Rattle.go.specs.Record.{go_at, go_record}
use Rattle.go.specs.GoCases.{GoCases}

pub go_cases : GoCases
unfolding little go_at go_record
go_cases =
    record {
      fields = refl;
      no_mark = refl;
      other_mark = refl;
      cut_off = refl;
    }
