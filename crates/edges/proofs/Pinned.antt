-- All cases in one statement: each is proved where it stands.
-- Assumes nothing.
use Rattle.limits.proofs.LimitCases.{limit_cases}
use Rattle.validity.proofs.TensorCases.{tensor_cases}
use Rattle.points.proofs.LabelCases.{label_cases}
use Rattle.entries.proofs.EntryCases.{entry_cases}
use Rattle.contraction.proofs.OrderCases.{order_cases}
use Rattle.tensor_answers.proofs.OwnQuestionCases.{own_question_cases}
use Rattle.questions.proofs.QuestionCases.{question_cases}
use Rattle.groups.proofs.GroupCases.{group_cases}
use Rattle.offsets.proofs.OffsetCases.{offset_cases}
use Rattle.odometer.proofs.CarriedCases.{carried_cases}
use Rattle.folding.proofs.FoldCases.{fold_cases}
use Rattle.block.proofs.BlockCases.{block_cases}
use Rattle.block.proofs.StretchCases.{stretch_cases}
use Rattle.pack.proofs.PackedCases.{packed_cases}
use Rattle.tiles.proofs.TileCases.{tile_cases}
use Rattle.tile_questions.proofs.TileQuestionCases.{tile_question_cases}
use Rattle.tiling.proofs.WorkCases.{work_cases}
use Rattle.marks.proofs.MarkCases.{mark_cases}
use Rattle.records.proofs.RecordCases.{record_cases}
use Rattle.go.proofs.GoCases.{go_cases}
use Rattle.jobfile.proofs.JobFileCases.{job_file_cases}
use Rattle.letters.proofs.LetterCases.{letter_cases}
use Rattle.flat.proofs.FlatLayoutCases.{flat_layout_cases}
use Rattle.answers.proofs.StatusCases.{status_cases}
use Rattle.scores.proofs.DelayCases.{delay_cases}
use Rattle.edges.specs.Pinned.{Pinned}
use Rattle.edges.proofs.Starred.{edges_hold}
use Rattle.edges.proofs.LabelKinds.{label_kind_cases}
use Rattle.edges.proofs.JobCases.{job_cases}

pub pinned : Pinned
pinned =
    record {
      limits = limit_cases;
      one_tensor = tensor_cases;
      all_labels = label_cases;
      all_entries = entry_cases;
      own_order = own_question_cases;
      in_order = question_cases;
      of_tile_questions = tile_question_cases;
      starred = edges_hold;
      letter_order = order_cases;
      groups = group_cases;
      counts = offset_cases;
      addresses = carried_cases;
      folding = fold_cases;
      label_kinds = label_kind_cases;
      tile_numbers = tile_cases;
      blocks = block_cases;
      stretches = stretch_cases;
      packed = packed_cases;
      work = work_cases;
      marks = mark_cases;
      records = record_cases;
      go = go_cases;
      job_file = job_file_cases;
      letters = letter_cases;
      printed = job_cases;
      delays = delay_cases;
      layout_words = flat_layout_cases;
      numbers = status_cases;
    }
