-- `extents_agree` meets its contract: the axes of all are D's, then A's, B's and C's.
-- Assumes nothing.
use mathlib.Core.Path.{sym, ap, ◌∙◌}
use mathlib.Core.Bool.{Bool, ◌&&◌}
use mathlib.Core.List.{◌++◌}
use lib.Dec.{eqb}
use Rattle.words.specs.Sums.{every}
use Rattle.words.proofs.Sums.{every_and}
use Rattle.layout.specs.declared.layout.Axis.{Axis}
use Rattle.labels.specs.Labels.{extent_of}
use Rattle.contraction.specs.Operands.{together}
use Rattle.contraction.specs.declared.contraction.Operand.TheVariants.{A, B, C, D}
use Rattle.contraction.specs.TensorAxes.{shape_of}
use Rattle.points.specs.LabelQuestions.{extents_agree}
use Rattle.points.proofs.label_questions.extents_agree.Goals as goal

pub returns : goal.returns
unfolding extents_agree together
returns c =
    let x = c.args.x.now in
    let s = shape_of x in
    let p : Axis → Bool = λ a. eqb a.extent (extent_of a.letter (together s)) in
    rw (c.extents_as-d.ensures, c.extents_as.ensures, c.extents_as-2.ensures, c.extents_as_c.ensures)
    (sym
    (every_and p (s D) (s A ++ (s B ++ s C))
    ∙ ap (λ (b : Bool). every p (s D) && b) (every_and p (s A) (s B ++ s C) ∙ ap (λ (b : Bool). every p (s A) && b) (every_and p (s B) (s C)))))
