-- The code's lists of the axes of the tensors, each and together, once questions 1 to 5 passed. Inside contracts only.
-- Assumes nothing.
use Rattle.std.specs.Prelude.{◌≡◌, unwrap_or}
use Rattle.layout.specs.declared.layout.Layout.{Layout}
use Rattle.layout.specs.declared.axes.Axes.{Axes}
use Rattle.layout.specs.Listed.{listed}
use Rattle.layout.specs.Layout.{axes}
use Rattle.labels.specs.declared.labelled.Labelled.{Labelled}
use Rattle.labels.specs.Lettered.{Lettered}
use Rattle.contraction.specs.declared.operands.Operands.{Operands}
use Rattle.contraction.specs.GatheredBy.{GatheredBy}
use Rattle.contraction.specs.Operands.{four, Shape, tensors}
use Rattle.contraction.specs.declared.contraction.Operand.{Operand}
use Rattle.contraction.specs.declared.contraction.Contraction.{Contraction}

-- the code's list of axes, beside its letters, for each tensor; where C is not named, D's stands for it
abbrev pub labelled_in : Operands → Operand → Labelled
labelled_in x = four x.a x.b (unwrap_or x.c x.d) x.d

abbrev pub axes_in : Operands → Operand → Axes
axes_in x o = (labelled_in x o).axes

-- the axes that it holds
abbrev pub shape_of : Operands → Shape
shape_of x o = listed (axes_in x o)

-- the list holds the axes of a layout of which questions 1 and 3 to 5 passed
pub record ListOf (l : Layout) (x : Labelled) : Type 0 where
  pub lists : listed x.axes ≡ axes l
  pub lettered : Lettered x

-- the list of each tensor
pub record ListedFrom (c : Contraction) (x : Operand → Labelled) : Type 0 where
  pub each : (o : Operand) → ListOf (tensors c o) (x o)

-- questions 1 and 3 to 5 passed of each, and the letters of all are there
abbrev pub Gathered : Operands → Type 0
Gathered x = GatheredBy (labelled_in x) x.letters

-- the code's record of these lists
pub record Held (x : Operand → Labelled) (r : Operands) : Type 0 where
  pub same : (o : Operand) → labelled_in r o ≡ x o
  pub gathered : Gathered r

-- the lists hold the axes of the tensors
pub record Ready (c : Contraction) (x : Operands) : Type 0 where
  pub each : (o : Operand) → listed (axes_in x o) ≡ axes (tensors c o)
  pub gathered : Gathered x
