-- All cases that are computed, in one statement: a definition that is changed together with its code breaks the case that quotes its rule. Those that
-- stand beside the definition are here by their crate.
-- Assumes nothing.
use Rattle.words.specs.Sums.{All}
use Rattle.limits.specs.LimitCases.{LimitCases}
use Rattle.validity.specs.TensorCases.{TensorCases}
use Rattle.points.specs.LabelCases.{LabelCases}
use Rattle.entries.specs.EntryCases.{EntryCases}
use Rattle.contraction.specs.OrderCases.{OrderCases}
use Rattle.tensor_answers.specs.OwnQuestionCases.{OwnQuestionCases}
use Rattle.questions.specs.QuestionCases.{QuestionCases}
use Rattle.groups.specs.GroupCases.{GroupCases}
use Rattle.offsets.specs.OffsetCases.{OffsetCases}
use Rattle.odometer.specs.CarriedCases.{CarriedCases}
use Rattle.folding.specs.FoldCases.{FoldCases}
use Rattle.block.specs.BlockCases.{BlockCases}
use Rattle.block.specs.StretchCases.{StretchCases}
use Rattle.pack.specs.PackedCases.{PackedCases}
use Rattle.tiles.specs.TileCases.{TileCases}
use Rattle.tile_questions.specs.TileQuestionCases.{TileQuestionCases}
use Rattle.tiling.specs.WorkCases.{WorkCases}
use Rattle.marks.specs.MarkCases.{MarkCases}
use Rattle.records.specs.RecordCases.{RecordCases}
use Rattle.go.specs.GoCases.{GoCases}
use Rattle.jobfile.specs.JobFileCases.{JobFileCases}
use Rattle.letters.specs.LetterCases.{LetterCases}
use Rattle.flat.specs.FlatLayoutCases.{FlatLayoutCases}
use Rattle.answers.specs.StatusCases.{StatusCases}
use Rattle.scores.specs.DelayCases.{DelayCases}
use Rattle.edges.specs.Edges.{edges, Holds}
use Rattle.edges.specs.LabelKinds.{LabelKindCases}
use Rattle.edges.specs.JobCases.{JobCases}

pub record Pinned : Type 0 where
  pub limits : LimitCases
  -- the questions
  pub one_tensor : TensorCases
  pub all_labels : LabelCases
  pub all_entries : EntryCases
  pub own_order : OwnQuestionCases
  pub in_order : QuestionCases
  pub of_tile_questions : TileQuestionCases
  -- what a contraction means: the ten starred cases of the rules, layers with nothing in them, and one with every kind of label
  pub starred : All Holds edges
  pub letter_order : OrderCases
  pub groups : GroupCases
  pub counts : OffsetCases
  pub addresses : CarriedCases
  pub folding : FoldCases
  pub label_kinds : LabelKindCases
  -- tiles
  pub tile_numbers : TileCases
  pub blocks : BlockCases
  pub stretches : StretchCases
  pub packed : PackedCases
  pub work : WorkCases
  -- the job file and what is printed
  pub marks : MarkCases
  pub records : RecordCases
  pub go : GoCases
  pub job_file : JobFileCases
  pub letters : LetterCases
  pub printed : JobCases
  -- two recordings
  pub delays : DelayCases
  -- the calls for C and Rust: a layout's words, and the numbers that are returned and set
  pub layout_words : FlatLayoutCases
  pub numbers : StatusCases
