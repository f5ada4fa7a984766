-- Questions 8 and 9 of tensors with entries and without, by computation.
-- Assumes nothing.
use mathlib.Core.Path.{refl}
use Rattle.labels.specs.Labels.{labels}
use Rattle.entries.specs.EntryQuestions.{has_entries, span, inside, below, strides_apart, apart}
use Rattle.entries.specs.EntryCases.{EntryCases}

pub entry_cases : EntryCases
unfolding labels has_entries span inside below strides_apart apart
entry_cases =
    record {
      all_inside = refl;
      below_it = refl;
      past_it = refl;
      none_outside = refl;
      meet_9 = refl;
      none_meet = refl;
    }
