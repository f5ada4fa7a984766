-- What is printed for five job files and for an empty one.
-- Assumes nothing.
use Rattle.std.specs.Prelude.{◌≡◌, ℕ, List, [], ◌++◌}
use Rattle.words.specs.Texts.{codes}
use Rattle.jobfile.specs.JobFileCases.{example_file, with_cfile, skewed_file, empty_depth_file, empty_output_file}
use Rattle.report.specs.Text.{decimal}
use Rattle.job.specs.Run.{job_text}

-- what is printed for each
abbrev pub example_text : List ℕ
example_text = codes "tiles 3 of 8\n211 f\n402 p\n300 o\n400 o\n"

abbrev pub with_ctext : List ℕ
with_ctext = codes "tiles 3 of 8\n31 f\n22 p\n300 o\n400 o\n"

abbrev pub skewed_text : List ℕ
skewed_text = codes "tiles 1 of 2\n72 f\n124 f\n30 -\n40 o\n50 o\n"

abbrev pub empty_depth_text : List ℕ
empty_depth_text = codes "tiles 1 of 2\n30 f\n60 f\n30 -\n40 o\n50 o\n"

abbrev pub empty_output_text : List ℕ
empty_output_text = codes "tiles 0 of 0\n4 -\n5 -\n"

pub record JobCases : Type 0 where
  -- "It prints exactly"
  pub example : job_text example_file ≡ example_text
  -- "Panel 0 .. then puts beta × C's entry instead of beta × old", "words not reached still hold D's old value"
  pub with_a_c : job_text with_cfile ≡ with_ctext
  -- "a line for each word of D's slice: its unsigned decimal value, a space, and `o` old, `p` part, `f` final, or `-` outside the layout"
  pub skewed : job_text skewed_file ≡ skewed_text
  -- "Depth size 0 counts as one panel with no terms; a batch, row or column size 0 gives total 0."
  pub empty_depth : job_text empty_depth_file ≡ empty_depth_text
  pub empty_output : job_text empty_output_file ≡ empty_output_text
  -- "its unsigned decimal value"
  pub decimals : decimal 0 ++ decimal 10 ++ decimal 4294967295 ≡ codes "0104294967295"
  -- "Output: `refused n`", "An empty file gives 21"
  pub empty : job_text [] ≡ codes "refused 21\n"
