-- Questions 1 to 5 on both sides of their limits, by computation.
-- Assumes nothing.
use mathlib.Core.Path.{refl}
use Rattle.layout.specs.Layout.{axes}
use Rattle.validity.specs.TensorQuestions.{rank_fits, counts_match, letters_valid, extents_valid, strides_valid, sizes_valid}
use Rattle.validity.specs.TensorCases.{TensorCases}

pub tensor_cases : TensorCases
unfolding axes rank_fits counts_match letters_valid extents_valid strides_valid sizes_valid
tensor_cases =
    record {
      eight_letters_fit = refl;
      nine_letters = refl;
      as_many = refl;
      fewer_extents = refl;
      fewer_strides = refl;
      more_of_both = refl;
      letters = refl;
      before_A = refl;
      after_Z = refl;
      before_a = refl;
      after_z = refl;
      extent_0 = refl;
      extent_65536 = refl;
      extent_65537 = refl;
      stride_up = refl;
      stride_down = refl;
      too_far_up = refl;
      too_far_down = refl;
      largest = refl;
      base_too_large = refl;
      slice_too_long = refl;
    }
