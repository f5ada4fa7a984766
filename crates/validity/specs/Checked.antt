-- The answers to questions 3 to 5 of the axes of the code's lists, and that they passed. Inside contracts only.
-- Assumes nothing.
use Rattle.std.specs.Prelude.{◌≤◌, ◌≡◌, List, T}
use Rattle.limits.specs.Limits.{rank_limit}
use Rattle.layout.specs.declared.layout.Axis.{Axis}
use Rattle.layout.specs.declared.axes.Axes.{Axes}
use Rattle.layout.specs.Listed.{listed}
use Rattle.validity.specs.declared.tensor_questions.Valid.{Valid}
use Rattle.validity.specs.TensorQuestions.{letters_valid, extents_valid, strides_valid}

-- what the code of questions 6 to 9 may assume: questions 1 and 3 to 5 passed
pub record Checked (x : Axes) : Type 0 where
  pub few : x.count ≤ rank_limit
  pub letters : T (letters_valid (listed x))
  pub extents : T (extents_valid (listed x))
  pub strides : T (strides_valid (listed x))

-- the answers of the code's record to questions 3, 4 and 5 are those of the axes
pub record ValidOf (xs : List Axis) (r : Valid) : Type 0 where
  pub letters : r.letters ≡ letters_valid xs
  pub extents : r.extents ≡ extents_valid xs
  pub strides : r.strides ≡ strides_valid xs
