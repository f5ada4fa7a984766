-- Questions 6, 30 and 7 on both sides, by computation.
-- Assumes nothing.
use mathlib.Core.Path.{refl}
use Rattle.labels.specs.Labels.{labels}
use Rattle.points.specs.LabelQuestions.{extents_agree, letters_same, points, points_fit}
use Rattle.points.specs.LabelCases.{LabelCases}

pub label_cases : LabelCases
unfolding labels extents_agree letters_same points points_fit
label_cases =
    record {
      same_extent = refl;
      other_extent = refl;
      same_letters = refl;
      one_missing = refl;
      one_more = refl;
      at_the_limit = refl;
      above_it = refl;
      zero_at_the_limit = refl;
      zero_above_it = refl;
    }
