-- A packed block at the edge, by computation.
-- Assumes nothing.
use mathlib.Core.Path.{refl}
use Rattle.pack.specs.Packed.{packed_word}
use Rattle.pack.specs.PackedCases.{PackedCases}

pub packed_cases : PackedCases
unfolding packed_word
packed_cases =
    record {
      edge = refl;
    }
