-- The code's lists hold the axes of the tensors, so that its answers to the later questions are those of the tensors.
-- Assumes nothing.
use mathlib.Core.Path.{◌≡◌, ap}
use Rattle.layout.specs.Listed.{listed}
use Rattle.layout.specs.Layout.{axes}
use Rattle.points.specs.LabelQuestions.{extents_agree, letters_same, points_fit}
use Rattle.entries.specs.EntryQuestions.{apart}
use Rattle.contraction.specs.declared.contraction.Contraction.{Contraction}
use Rattle.contraction.specs.declared.operands.Operands.{Operands}
use Rattle.contraction.specs.Operands.{tensors, shape, together}
use Rattle.contraction.specs.declared.contraction.Operand.TheVariants.{C, D}
use Rattle.contraction.specs.TensorAxes.{shape_of, Ready}

pub record Read (c : Contraction) (x : Operands) : Type 0 where
  pub agree : extents_agree (together (shape_of x)) ≡ extents_agree (together (shape (tensors c)))
  pub same : letters_same (shape_of x C) (shape_of x D) ≡ letters_same (axes (tensors c C)) (axes (tensors c D))
  pub fit : points_fit (together (shape_of x)) ≡ points_fit (together (shape (tensors c)))
  pub apart : apart (listed x.d.axes) ≡ apart (axes (tensors c D))

pub read : (c : Contraction) (x : Operands) → Ready c x → Read c x
read c x r =
    record {
      agree = ap (λ s. extents_agree (together s)) (λ i o. r.each o i);
      same = λ i. letters_same (r.each C i) (r.each D i);
      fit = ap (λ s. points_fit (together s)) (λ i o. r.each o i);
      apart = ap apart (r.each D);
    }
