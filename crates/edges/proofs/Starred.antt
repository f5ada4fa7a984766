-- The small cases hold: each row by computation.
-- Assumes nothing.
use mathlib.Core.Path.{refl}
use Rattle.words.specs.Sums.{All, sum_to}
use Rattle.words.specs.Loops.{each, put}
use Rattle.layout.specs.Layout.{axes, axes_of, layout_of, address}
use Rattle.validity.specs.TensorQuestions.{rank_fits, counts_match, letters_valid, extents_valid, strides_valid, sizes_valid}
use Rattle.labels.specs.Labels.{labels}
use Rattle.points.specs.LabelQuestions.{extents_agree, letters_same, points, points_fit}
use Rattle.entries.specs.EntryQuestions.{has_entries, span, inside, below, strides_apart, apart}
use Rattle.contraction.specs.Operands.{together}
use Rattle.tensor_answers.specs.OwnQuestions.{tensor_questions}
use Rattle.questions.specs.Questions.{label_questions, entry_questions, layout_questions}
use Rattle.groups.specs.Groups.{group_of, in_group, group, outputs}
use Rattle.meaning.specs.Index.{out_index}
use Rattle.meaning.specs.Meaning.{entry, value, result}
use Rattle.block.specs.Block.{classify}
use Rattle.edges.specs.Edges.{edges, Holds}

pub edges_hold : All Holds edges
unfolding axes axes_of layout_of address together labels group_of in_group group entry value outputs out_index result classify tensor_questions label_questions entry_questions layout_questions rank_fits counts_match letters_valid extents_valid strides_valid sizes_valid extents_agree letters_same points points_fit has_entries span inside below strides_apart apart sum_to each put
edges_hold =
    ((refl, refl), ((refl, refl), ((refl, refl), ((refl, refl), ((refl, refl), ((refl, refl), ((refl, refl), (refl, (refl, (refl, (refl, (refl, (refl, (refl, (refl, (refl, (refl, ((refl, refl), ((refl, refl), ((refl, refl), ((refl, refl), (refl, ((refl, refl), ((refl, refl), ((refl, refl), ((refl, refl), ((refl, refl), (refl, (refl, tt)))))))))))))))))))))))))))))
