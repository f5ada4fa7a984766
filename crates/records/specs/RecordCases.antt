-- A tensor's records: what is read, and what refuses them where.
-- Assumes nothing.
use Rattle.std.specs.Prelude.{ℕ, ◌≡◌, List, [], ◌∷◌, ◌++◌, negsuc}
use Rattle.words.specs.Texts.{codes}
use Rattle.layout.specs.Layout.{layout_of}
use Rattle.marks.specs.Marks.{letter_a}
use Rattle.records.specs.Records.{got, file_refused, layout_record, words_record}

-- letter `i`, extent 259, stride -2, base 5
abbrev layout_bytes : List ℕ
layout_bytes = codes "LA" ++ 1 ∷ codes "i" ++ 3 ∷ 1 ∷ 0 ∷ 0 ∷ 254 ∷ 255 ∷ 255 ∷ 255 ∷ 5 ∷ 0 ∷ 0 ∷ 0 ∷ []

pub record RecordCases : Type 0 where
  -- "one byte of rank, that many letters, extents (4 bytes each), strides (4, signed), base (4)"
  pub layout : layout_record layout_bytes letter_a 0 ≡ got (layout_of (codes "i") (259 ∷ []) (negsuc 1 ∷ []) 5) 16
  -- "a count (4), then 4 bytes a word", "a count (4), one unsigned byte a word"
  pub words : words_record (codes "WA" ++ 1 ∷ 0 ∷ 0 ∷ 0 ∷ 1 ∷ 2 ∷ 0 ∷ 0 ∷ []) letter_a 0 ≡ got (513 ∷ []) 10
  pub bytes : words_record (codes "YA" ++ 2 ∷ 0 ∷ 0 ∷ 0 ∷ 255 ∷ 7 ∷ []) letter_a 0 ≡ got (255 ∷ 7 ∷ []) 8
  -- "at each record in this order: are two bytes there? 21. Is the mark one allowed here? 20."
  pub no_mark : layout_record (codes "L") letter_a 0 ≡ file_refused 21
  pub other_mark : layout_record (codes "LB") letter_a 0 ≡ file_refused 20
  pub words_first : layout_record (codes "WA") letter_a 0 ≡ file_refused 20
  pub layout_again : words_record (codes "LA") letter_a 0 ≡ file_refused 20
  -- "A rank above 8 gives 1. Is a word count at most 4,096? 23. Is the whole record there? 21.", "and so does a rank or count that is cut off"
  pub no_rank : layout_record (codes "LA") letter_a 0 ≡ file_refused 21
  pub rank_9 : layout_record (codes "LA" ++ 9 ∷ []) letter_a 0 ≡ file_refused 1
  pub rank_8 : layout_record (codes "LA" ++ 8 ∷ []) letter_a 0 ≡ file_refused 21
  pub no_count : words_record (codes "WA" ++ 1 ∷ 0 ∷ 0 ∷ []) letter_a 0 ≡ file_refused 21
  pub count_4097 : words_record (codes "WA" ++ 1 ∷ 16 ∷ 0 ∷ 0 ∷ []) letter_a 0 ≡ file_refused 23
  pub count_4096 : words_record (codes "WA" ++ 0 ∷ 16 ∷ 0 ∷ 0 ∷ []) letter_a 0 ≡ file_refused 21
