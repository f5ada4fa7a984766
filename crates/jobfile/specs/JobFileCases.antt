-- Five job files, byte by byte, and what is read.
-- Assumes nothing.
use Rattle.std.specs.Prelude.{ℕ, ◌/◌, ◌%◌, ◌≡◌, true, false, List, [], ◌∷◌, ◌++◌, pos, negsuc}
use Rattle.words.specs.Texts.{codes}
use Rattle.layout.specs.Layout.{layout_of}
use Rattle.records.specs.Records.{got, file_refused, Tensor, tensor}
use Rattle.go.specs.declared.go.Go.{Go}
use Rattle.jobfile.specs.Format.{Job, job_of, read_job}

-- a number in two bytes, and in four, the least significant first
abbrev two : ℕ → List ℕ
two n = n % 256 ∷ n / 256 % 256 ∷ []

abbrev four : ℕ → List ℕ
four n = two n ++ two (n / 65536)

-- numbers of four bytes each
abbrev fours : List ℕ → List ℕ
fours [] = []
fours (n ∷ ns) = four n ++ fours ns

-- "A `ik`, extents 2 3, strides 1 2, words 1 2 3 4 5 6; B `kj`, 3 2, 1 3, words 1 0 2 0 1 1; D `ij`, 2 2, 1 2, words 100 200 300 400; bases 0, alpha 1, beta 2,
-- rows 1, cols 1, depth 2, done 0, budget 3": the rules' example, as a file, up to B's words and from D's layout on, and as a job
abbrev up_to_b : List ℕ
up_to_b =
    codes "LA" ++ 2 ∷ codes "ik" ++ fours (2 ∷ 3 ∷ 1 ∷ 2 ∷ 0 ∷ []) ++ codes "WA" ++ fours (6 ∷ 1 ∷ 2 ∷ 3 ∷ 4 ∷ 5 ∷ 6 ∷ [])
    ++ codes "LB" ++ 2 ∷ codes "kj" ++ fours (3 ∷ 2 ∷ 1 ∷ 3 ∷ 0 ∷ []) ++ codes "WB" ++ fours (6 ∷ 1 ∷ 0 ∷ 2 ∷ 0 ∷ 1 ∷ 1 ∷ [])

abbrev d_and_go : List ℕ
d_and_go =
    codes "LD" ++ 2 ∷ codes "ij" ++ fours (2 ∷ 2 ∷ 1 ∷ 2 ∷ 0 ∷ []) ++ codes "WD" ++ fours (4 ∷ 100 ∷ 200 ∷ 300 ∷ 400 ∷ [])
    ++ codes "GO" ++ four 1 ++ four 2 ++ two 1 ++ two 1 ++ two 2 ++ four 0 ++ four 3

abbrev pub example_file : List ℕ
example_file = up_to_b ++ d_and_go

abbrev example_a : Tensor
example_a = tensor (layout_of (codes "ik") (2 ∷ 3 ∷ []) (pos 1 ∷ pos 2 ∷ []) 0) (1 ∷ 2 ∷ 3 ∷ 4 ∷ 5 ∷ 6 ∷ [])

abbrev example_b : Tensor
example_b = tensor (layout_of (codes "kj") (3 ∷ 2 ∷ []) (pos 1 ∷ pos 3 ∷ []) 0) (1 ∷ 0 ∷ 2 ∷ 0 ∷ 1 ∷ 1 ∷ [])

abbrev example_d : Tensor
example_d = tensor (layout_of (codes "ij") (2 ∷ 2 ∷ []) (pos 1 ∷ pos 2 ∷ []) 0) (100 ∷ 200 ∷ 300 ∷ 400 ∷ [])

abbrev example_go : Go
example_go = record { alpha = 1; beta = 2; sizes = record { rows = 1; cols = 1; depth = 2 }; done = 0; budget = 3 }

abbrev pub example_job : Job
example_job = record { a = example_a; b = example_b; c = example_d; d = example_d; named = false; go = example_go }

-- the same with C `ij`, extents 2 2, strides 0 1, words 10 20
abbrev layout_c : List ℕ
layout_c = codes "LC" ++ 2 ∷ codes "ij" ++ fours (2 ∷ 2 ∷ 0 ∷ 1 ∷ 0 ∷ [])

abbrev words_c : List ℕ
words_c = codes "WC" ++ fours (2 ∷ 10 ∷ 20 ∷ [])

abbrev pub with_cfile : List ℕ
with_cfile = up_to_b ++ layout_c ++ words_c ++ d_and_go

abbrev example_c : Tensor
example_c = tensor (layout_of (codes "ij") (2 ∷ 2 ∷ []) (pos 0 ∷ pos 1 ∷ []) 0) (10 ∷ 20 ∷ [])

abbrev pub with_cjob : Job
with_cjob = record { a = example_a; b = example_b; c = example_c; d = example_d; named = true; go = example_go }

-- A's words as bytes; B's first stride -1, from base 1 on; a word of D that the layout skips; 2 rows and 1 column
abbrev pub skewed_file : List ℕ
skewed_file =
    codes "LA" ++ 2 ∷ codes "ik" ++ fours (2 ∷ 2 ∷ 1 ∷ 2 ∷ 0 ∷ []) ++ codes "YA" ++ four 4 ++ 1 ∷ 2 ∷ 3 ∷ 4 ∷ []
    ++ codes "LB" ++ 2 ∷ codes "kj" ++ fours (2 ∷ 2 ∷ 4294967295 ∷ 2 ∷ 1 ∷ []) ++ codes "WB" ++ fours (4 ∷ 5 ∷ 6 ∷ 7 ∷ 8 ∷ [])
    ++ codes "LD" ++ 2 ∷ codes "ij" ++ fours (2 ∷ 2 ∷ 1 ∷ 3 ∷ 0 ∷ []) ++ codes "WD" ++ fours (5 ∷ 10 ∷ 20 ∷ 30 ∷ 40 ∷ 50 ∷ [])
    ++ codes "GO" ++ four 2 ++ four 3 ++ two 2 ++ two 1 ++ two 2 ++ four 0 ++ four 1

abbrev pub skewed_job : Job
skewed_job =
    job_of
    (tensor (layout_of (codes "ik") (2 ∷ 2 ∷ []) (pos 1 ∷ pos 2 ∷ []) 0) (1 ∷ 2 ∷ 3 ∷ 4 ∷ []))
    (tensor (layout_of (codes "kj") (2 ∷ 2 ∷ []) (negsuc 0 ∷ pos 2 ∷ []) 1) (5 ∷ 6 ∷ 7 ∷ 8 ∷ []))
    (tensor (layout_of (codes "ij") (2 ∷ 2 ∷ []) (pos 1 ∷ pos 3 ∷ []) 0) (10 ∷ 20 ∷ 30 ∷ 40 ∷ 50 ∷ []))
    (record { alpha = 2; beta = 3; sizes = record { rows = 2; cols = 1; depth = 2 }; done = 0; budget = 1 })

-- k has extent 0: A, from base 7 on, and B have no words
abbrev pub empty_depth_file : List ℕ
empty_depth_file =
    codes "LA" ++ 2 ∷ codes "ik" ++ fours (2 ∷ 0 ∷ 1 ∷ 2 ∷ 7 ∷ []) ++ codes "WA" ++ four 0
    ++ codes "LB" ++ 2 ∷ codes "kj" ++ fours (0 ∷ 2 ∷ 1 ∷ 0 ∷ 0 ∷ []) ++ codes "WB" ++ four 0
    ++ codes "LD" ++ 2 ∷ codes "ij" ++ fours (2 ∷ 2 ∷ 1 ∷ 3 ∷ 0 ∷ []) ++ codes "WD" ++ fours (5 ∷ 10 ∷ 20 ∷ 30 ∷ 40 ∷ 50 ∷ [])
    ++ codes "GO" ++ four 2 ++ four 3 ++ two 2 ++ two 1 ++ two 2 ++ four 0 ++ four 1

abbrev pub empty_depth_job : Job
empty_depth_job =
    job_of
    (tensor (layout_of (codes "ik") (2 ∷ 0 ∷ []) (pos 1 ∷ pos 2 ∷ []) 7) [])
    (tensor (layout_of (codes "kj") (0 ∷ 2 ∷ []) (pos 1 ∷ pos 0 ∷ []) 0) [])
    (tensor (layout_of (codes "ij") (2 ∷ 2 ∷ []) (pos 1 ∷ pos 3 ∷ []) 0) (10 ∷ 20 ∷ 30 ∷ 40 ∷ 50 ∷ []))
    (record { alpha = 2; beta = 3; sizes = record { rows = 2; cols = 1; depth = 2 }; done = 0; budget = 1 })

-- D's only label has extent 0, and D has two words
abbrev pub empty_output_file : List ℕ
empty_output_file =
    codes "LA" ++ 0 ∷ four 0 ++ codes "WA" ++ fours (1 ∷ 2 ∷ []) ++ codes "LB" ++ 0 ∷ four 0 ++ codes "WB" ++ fours (1 ∷ 3 ∷ [])
    ++ codes "LD" ++ 1 ∷ codes "i" ++ fours (0 ∷ 1 ∷ 0 ∷ []) ++ codes "WD" ++ fours (2 ∷ 4 ∷ 5 ∷ [])
    ++ codes "GO" ++ four 1 ++ four 2 ++ two 1 ++ two 1 ++ two 1 ++ four 0 ++ four 9

abbrev pub empty_output_job : Job
empty_output_job =
    job_of
    (tensor (layout_of [] [] [] 0) (2 ∷ []))
    (tensor (layout_of [] [] [] 0) (3 ∷ []))
    (tensor (layout_of (codes "i") (0 ∷ []) (pos 1 ∷ []) 0) (4 ∷ 5 ∷ []))
    (record { alpha = 1; beta = 2; sizes = record { rows = 1; cols = 1; depth = 1 }; done = 0; budget = 9 })

pub record JobFileCases : Type 0 where
  -- "Records in the order A layout, A words, B layout, B words, D layout, D words, go"
  pub example : read_job example_file ≡ got example_job 181
  pub skewed : read_job skewed_file ≡ got skewed_job 157
  pub empty_depth : read_job empty_depth_file ≡ got empty_depth_job 137
  pub empty_output : read_job empty_output_file ≡ got empty_output_job 88
  -- "After `GO`, has the file ended? 22. An empty file gives 21"
  pub empty : read_job [] ≡ file_refused 21
  pub longer : read_job (example_file ++ 0 ∷ []) ≡ file_refused 22
  -- "In the job file `LC` and `WC` may follow B's words": both or neither, and nowhere else
  pub with_a_c : read_job with_cfile ≡ got with_cjob 220
  pub c_without_words : read_job (up_to_b ++ layout_c ++ d_and_go) ≡ file_refused 20
  pub c_without_layout : read_job (up_to_b ++ words_c ++ d_and_go) ≡ file_refused 20
  pub c_in_bytes : read_job (up_to_b ++ layout_c ++ codes "YC" ++ four 2 ++ 10 ∷ 20 ∷ [] ++ d_and_go) ≡ file_refused 20
  pub c_again : read_job (up_to_b ++ layout_c ++ words_c ++ layout_c) ≡ file_refused 20
  -- "are two bytes there? 21"
  pub c_cut_off : read_job (up_to_b ++ codes "L") ≡ file_refused 21
  pub c_no_rank : read_job (up_to_b ++ codes "LC") ≡ file_refused 21
  -- "under the same limit of 4,096"
  pub c_count_4097 : read_job (up_to_b ++ layout_c ++ codes "WC" ++ four 4097) ≡ file_refused 23
  pub c_count_4096 : read_job (up_to_b ++ layout_c ++ codes "WC" ++ four 4096) ≡ file_refused 21
