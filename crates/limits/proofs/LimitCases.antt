-- The limits in figures, by computation.
-- Assumes nothing.
use mathlib.Core.Path.{refl}
use Rattle.limits.specs.LimitCases.{LimitCases}

pub limit_cases : LimitCases
limit_cases =
    record {
      letters = refl;
      extents = refl;
      strides = refl;
      bases = refl;
      slices = refl;
      products = refl;
      rows = refl;
      columns = refl;
      depths = refl;
      offsets = refl;
      job_words = refl;
      job_work = refl;
      lags = refl;
      used = refl;
      lowest = refl;
      highest = refl;
    }
