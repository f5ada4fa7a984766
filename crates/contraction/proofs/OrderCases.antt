-- The order of the letters of the tensors, and what stands for C, by computation.
-- Assumes nothing.
use mathlib.Core.Path.{refl}
use Rattle.layout.specs.Layout.{axes_of, layout_of}
use Rattle.contraction.specs.Operands.{together}
use Rattle.contraction.specs.OrderCases.{OrderCases}

pub order_cases : OrderCases
unfolding axes_of layout_of together
order_cases =
    record {
      d_a_b = refl;
      without_c = refl;
      with_a_c = refl;
      words_without_c = refl;
      words_with_c = refl;
    }
