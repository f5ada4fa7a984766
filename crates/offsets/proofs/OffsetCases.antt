-- The first label runs fastest, by computation.
-- Assumes nothing.
use Rattle.std.proofs.Common.{refl}
use Rattle.offsets.specs.OffsetCases.{OffsetCases}

pub offset_cases : OffsetCases
offset_cases =
    record {
      first_fastest = refl;
    }
