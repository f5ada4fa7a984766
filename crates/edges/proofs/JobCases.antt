-- What is printed for four job files and for an empty one, by computation: what is read, then the text of the call. Of the work slice only its length is looked at.
-- Assumes nothing.
use Prim.Native.Nat.{ℕ}
use mathlib.Core.Path.{◌≡◌, refl, ◌∙◌, ap}
use mathlib.Core.List.{List, ◌++◌}
use lib.ListN.{length}
use Rattle.words.specs.Lists.{tabulate}
use Rattle.words.specs.Sums.{sum_to}
use Rattle.words.specs.Loops.{each, put}
use Rattle.words.specs.Texts.{codes}
use Rattle.words.proofs.Tabulate.{length_tabulate}
use Rattle.limits.specs.Limits.{work_room}
use Rattle.layout.specs.Layout.{axes_of, layout_of, axes, address}
use Rattle.validity.specs.TensorQuestions.{rank_fits, counts_match, letters_valid, extents_valid, strides_valid, sizes_valid}
use Rattle.labels.specs.Labels.{labels}
use Rattle.points.specs.LabelQuestions.{extents_agree, letters_same, points, points_fit}
use Rattle.entries.specs.EntryQuestions.{has_entries, span, inside, below, strides_apart, apart}
use Rattle.contraction.specs.Operands.{together}
use Rattle.tensor_answers.specs.OwnQuestions.{tensor_questions}
use Rattle.questions.specs.Questions.{label_questions, entry_questions, layout_questions}
use Rattle.groups.specs.Groups.{group_of, in_group, group}
use Rattle.meaning.specs.Index.{index}
use Rattle.meaning.specs.Meaning.{entry}
use Rattle.tiles.specs.Cut.{blocks, width, MB, NB, KB, total, tile_number, batch_of, column_of, panel_of, row_of}
use Rattle.tiles.specs.Progress.{done, done_count, state_at}
use Rattle.tiles.specs.TileWalk.{tile_at, visit_tile, walk_tiles}
use Rattle.tiles.specs.Setting.{panel_sum, render, add_panel, tiles_from}
use Rattle.tile_blocks.specs.ContractionInTiles.{address_at, start_at, entry_on, setting}
use Rattle.tile_questions.specs.TileQuestions.{sizes_fit, size_question, room_question, done_question, accept_questions, tile_questions}
use Rattle.tiled.specs.TileCall.{ran_call, tile_call}
use Rattle.records.specs.Records.{got}
use Rattle.jobfile.specs.Format.{Job, read_job}
use Rattle.jobfile.specs.JobFileCases.{example_file, example_job, with_cfile, with_cjob, skewed_file, skewed_job, empty_depth_file, empty_depth_job, empty_output_file, empty_output_job}
use Rattle.jobfile.proofs.JobFileCases.{job_file_cases}
use Rattle.decode.specs.JobValues.{contraction_in, slices_in}
use Rattle.states.specs.StateLetters.{state_letters}
use Rattle.report.specs.Text.{digits_of, decimal, refused_text, tiles_line, word_line, word_lines, report_text}
use Rattle.job_call.specs.Answer.{answer_text, call_text}
use Rattle.job.specs.Run.{run_text, reading_text, job_text}
use Rattle.edges.specs.JobCases.{example_text, with_ctext, skewed_text, empty_depth_text, empty_output_text, JobCases}

-- the text of a job's call with a work slice
unfoldable called_with : Job → List ℕ → List ℕ
called_with j work =
    call_text (contraction_in j) j.go.sizes (slices_in j)
    (tile_call (contraction_in j) j.go.sizes (slices_in j) work j.go.done j.go.budget)

-- a job's call with a work slice of zeros, by what its call is with any slice of that length
called_with_lem : (j : Job) {text : List ℕ} (room : ℕ) → ((work : List ℕ) → length work ≡ room → called_with j work ≡ text) → called_with j (tabulate room (λ k. 0)) ≡ text
called_with_lem j room called = called (tabulate room (λ k. 0)) (length_tabulate room (λ k. 0))

-- the text of a file that was read is that of its job's call
read_text : (file : List ℕ) {j : Job} {end : ℕ} → read_job file ≡ got j end → job_text file ≡ called_with j (tabulate work_room (λ k. 0))
unfolding called_with run_text reading_text job_text
read_text file read = ap reading_text read

all_called : (work : List ℕ) → length work ≡ work_room
    → (called_with example_job work ≡ example_text) × (called_with skewed_job work ≡ skewed_text) × (called_with empty_depth_job work ≡ empty_depth_text)
    × (called_with empty_output_job work ≡ empty_output_text) × (called_with with_cjob work ≡ with_ctext)
unfolding called_with each put sum_to axes_of layout_of axes address rank_fits counts_match letters_valid extents_valid strides_valid sizes_valid labels extents_agree letters_same points points_fit has_entries span inside below strides_apart apart together tensor_questions label_questions entry_questions layout_questions group_of in_group group index entry blocks width MB NB KB total tile_number batch_of column_of panel_of row_of done done_count state_at panel_sum render add_panel tile_at visit_tile walk_tiles tiles_from address_at start_at entry_on setting sizes_fit size_question room_question done_question accept_questions tile_questions ran_call tile_call state_letters digits_of refused_text tiles_line word_line word_lines report_text answer_text call_text
all_called work e = rw e (refl, refl, refl, refl, refl)

refused_21 : refused_text 21 ≡ codes "refused 21\n"
unfolding digits_of refused_text
refused_21 = refl

in_decimals : decimal 0 ++ decimal 10 ++ decimal 4294967295 ≡ codes "0104294967295"
unfolding digits_of
in_decimals = refl

pub job_cases : JobCases
unfolding reading_text job_text
job_cases =
    record {
      example = read_text example_file job_file_cases.example ∙ called_with_lem example_job work_room (λ work e. (all_called work e).0);
      with_a_c = read_text with_cfile job_file_cases.with_a_c ∙ called_with_lem with_cjob work_room (λ work e. (all_called work e).4);
      skewed = read_text skewed_file job_file_cases.skewed ∙ called_with_lem skewed_job work_room (λ work e. (all_called work e).1);
      empty_depth = read_text empty_depth_file job_file_cases.empty_depth ∙ called_with_lem empty_depth_job work_room (λ work e. (all_called work e).2);
      empty_output = read_text empty_output_file job_file_cases.empty_output ∙ called_with_lem empty_output_job work_room (λ work e. (all_called work e).3);
      decimals = in_decimals;
      empty = ap reading_text job_file_cases.empty ∙ refused_21;
    }
