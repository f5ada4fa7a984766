-- A label as the code holds it, and the code's list of labels: one label more at its end, and its last label.
-- Assumes nothing.
use mathlib.Core.Path.{◌≡◌, sym, ap, ◌∙◌, fun_ext}
use mathlib.Core.List.{List, [], ◌∷◌, ◌++◌, map, map-append}
use Prim.Native.Nat.{ℕ, ◌+◌, ◌<◌, ◌≤◌}
use lib.ListN.{length, get_or, take, set, length-map}
use lib.IntN.{ℤ}
use Rattle.std.proofs.lemmas.List.{get_or-take, length-take-le}
use Rattle.words.specs.Lists.{first_of}
use Rattle.words.specs.Words.{word_of, signed}
use Rattle.words.proofs.Tabulate.{tabulate_ext, first_of_suc, first_of_push, first_of_all, length_first_of}
use Rattle.labels.specs.Labels.{stride_of, extent_of}
use Rattle.labels.proofs.Facts.{signed_stride}
use Rattle.contraction.specs.declared.operands.Operands.{Operands}
use Rattle.contraction.specs.Operands.{together}
use Rattle.contraction.specs.declared.contraction.Operand.{Operand}
use Rattle.contraction.specs.declared.contraction.Operand.TheVariants.{A, B, C, D}
use Rattle.contraction.specs.TensorPlaces.{by_tensor}
use Rattle.contraction.specs.TensorAxes.{axes_in, shape_of}
use Rattle.groups.specs.declared.groups.Dim.{Dim}
use Rattle.groups.specs.declared.groups.Group.{Group}
use Rattle.groups.specs.Groups.{label}
use Rattle.groups.specs.Held.{as_label, no_dim, labels_in}

-- an array of which the first n places are in use
abbrev pub holding : List Dim → ℕ → Group
holding dims n = record { dims = dims; count = n }

-- as many labels as are counted
pub labels_count : (g : Group) → length (labels_in g) ≡ g.count
unfolding labels_in
labels_count g = length-map (first_of g.count no_dim g.dims) as_label ∙ length_first_of g.count no_dim g.dims

-- the first items of an array that has as many
pub first_taken : {X : Type 0} (d : X) (xs : List X) (n : ℕ) → n ≤ length xs → first_of n d xs ≡ take n xs
first_taken d xs n h = tabulate_ext n (λ i b. sym (get_or-take n xs i d b)) ∙ first_of_all d (take n xs) n (length-take-le n xs h)

-- the labels are the first ones of the array
pub labels_held : (g : Group) → g.count ≤ length g.dims → labels_in g ≡ map as_label (take g.count g.dims)
unfolding labels_in
labels_held g h = ap (map as_label) (first_taken no_dim g.dims g.count h)

-- with one more stored behind them
pub labels_push : (dims : List Dim) (n : ℕ) (l : Dim) → n < length dims → labels_in (holding (set dims n l) (n + 1)) ≡ labels_in (holding dims n) ++ as_label l ∷ []
unfolding labels_in
labels_push dims n l h = ap (map as_label) (first_of_push no_dim dims n l h) ∙ map-append as_label (first_of n no_dim dims) (l ∷ [])

-- with the place behind them in use too
pub labels_last : (dims : List Dim) (n : ℕ) → labels_in (holding dims (n + 1)) ≡ labels_in (holding dims n) ++ as_label (get_or dims n no_dim) ∷ []
unfolding labels_in
labels_last dims n = ap (map as_label) (first_of_suc n no_dim dims) ∙ map-append as_label (first_of n no_dim dims) (get_or dims n no_dim ∷ [])

-- the address words of a letter's strides, in an array by tensor
abbrev stride_words : Operands → ℕ → List ℕ
stride_words x c =
    let at : Operand → ℕ = λ o. word_of 64 (stride_of c (shape_of x o)) in
    at A ∷ at B ∷ at C ∷ at D ∷ []

-- a letter's label: its extent in all axes together, and its strides by their address words
pub as_label_lem : (x : Operands) (c : ℕ)
    → as_label (record { letter = c; extent = extent_of c (together (shape_of x)); strides = stride_words x c }) ≡ label (shape_of x) c
as_label_lem x c =
    (ap (λ (f : Operand → ℤ). record { letter = c; extent = extent_of c (together (shape_of x)); stride = f }) (fun_ext same))
  where
    word : (o : Operand) → signed 64 (word_of 64 (stride_of c (shape_of x o))) ≡ stride_of c (shape_of x o)
    word o = let ok = (x.gathered.each o).checked in signed_stride (axes_in x o) ok.few ok.strides c

    same : (o : Operand) → signed 64 (by_tensor (stride_words x c) o) ≡ stride_of c (shape_of x o)
    same A = word A
    same B = word B
    same C = word C
    same D = word D
