-- The labels that the code's lists hold. Inside contracts only.
-- Assumes nothing.
use Rattle.std.specs.Prelude.{List, [], map}
use Rattle.words.specs.Lists.{first_of}
use Rattle.words.specs.Words.{signed}
use Rattle.contraction.specs.TensorPlaces.{by_tensor}
use Rattle.groups.specs.declared.groups.Dim.{Dim}
use Rattle.groups.specs.declared.groups.Group.{Group}
use Rattle.groups.specs.Groups.{Label}

-- a label as code holds it, its strides as 64-bit address words
abbrev pub as_label : Dim → Label
as_label x = record { letter = x.letter; extent = x.extent; stride = λ o. signed 64 (by_tensor x.strides o) }

-- what an array holds where there is no label
abbrev pub no_dim : Dim
no_dim = record { letter = 0; extent = 0; strides = [] }

-- the labels that the code's list holds
unfoldable pub labels_in : Group → List Label
labels_in g = map as_label (first_of g.count no_dim g.dims)
