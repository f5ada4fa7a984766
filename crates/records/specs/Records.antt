-- A tensor's two records in a job file: what each holds, or the number that refuses it.
-- Assumes nothing.
use Rattle.std.specs.Prelude.{ℕ, ◌+◌, ◌*◌, Bool, not, cond, ◌&&◌, List, map, eqb, leb}
use Rattle.words.specs.Words.{signed}
use Rattle.limits.specs.Limits.{rank_limit, job_limit}
use Rattle.layout.specs.declared.layout.Layout.{Layout}
use Rattle.layout.specs.Layout.{layout_of}
use Rattle.little_endian.specs.Bytes.{has, little, numbers}
use Rattle.marks.specs.declared.marks.Kind.{Kind}
use Rattle.marks.specs.Marks.{kind_of, is_layout, word_width}

-- what was read and where the next record begins, or the number that refuses the file
pub data Reading (X : Type 0) : Type 0 where
  got : (value : X) (next : ℕ) → Reading X
  file_refused : (number : ℕ) → Reading X

-- a question: where the answer is no, its number
abbrev pub check : {X : Type 0} → Bool → ℕ → Reading X → Reading X
check passes number rest = cond passes rest (file_refused number)

-- one reading after another: the rest reads on from the value and the place that the first got; a refusal ends both
abbrev pub then : {X Y : Type 0} → Reading X → (X → ℕ → Reading Y) → Reading Y
then (got value next) rest = rest value next
then (file_refused number) rest = file_refused number

pub record Tensor : Type 0 where
  pub layout : Layout
  pub words : List ℕ

abbrev pub tensor : Layout → List ℕ → Tensor
tensor layout words = record { layout = layout; words = words }

module _ (file : List ℕ) where
  -- of a record at `at`: its kind by its mark, a layout's rank, a count of words, and how many bytes a word of tensor t has
  abbrev pub kind_at : ℕ → Kind
  kind_at at = kind_of (little file 2 at)

  abbrev pub rank_at : ℕ → ℕ
  rank_at at = little file 1 (at + 2)

  abbrev pub count_at : ℕ → ℕ
  count_at at = little file 4 (at + 2)

  abbrev pub width_at : ℕ → ℕ → ℕ
  width_at t at = word_width t (kind_at at)

  -- does the layout of tensor t begin here?
  abbrev pub layout_begins : ℕ → ℕ → Bool
  layout_begins t at = has file at 2 && is_layout t (kind_at at)

  -- a layout from its letters on: r letters, r extents, r strides, the base
  unfoldable pub layout_at : ℕ → ℕ → Layout
  layout_at at r =
      layout_of (numbers file 1 r at) (numbers file 4 r (at + r)) (map (signed 32) (numbers file 4 r (at + 5 * r))) (little file 4 (at + 9 * r))

  -- the layout of tensor t: mark (2 bytes), rank (1), letters (1 each), extents (4 each), strides (4 each, signed), base (4)
  unfoldable pub layout_record : ℕ → ℕ → Reading Layout
  layout_record t at =
      check (has file at 2) 21
      (check (is_layout t (kind_at at)) 20
      (check (has file at 3) 21
      (check (leb (rank_at at) rank_limit) 1
      (check (has file at (7 + 9 * rank_at at)) 21
      (got (layout_at (at + 3) (rank_at at)) (at + (7 + 9 * rank_at at)))))))

  -- the words of tensor t: mark (2), count (4), the words (4 each, or 1 each)
  unfoldable pub words_record : ℕ → ℕ → Reading (List ℕ)
  words_record t at =
      check (has file at 2) 21
      (check (not (eqb (width_at t at) 0)) 20
      (check (has file at 6) 21
      (check (leb (count_at at) job_limit) 23
      (check (has file at (6 + width_at t at * count_at at)) 21
      (got (numbers file (width_at t at) (count_at at) (at + 6)) (at + (6 + width_at t at * count_at at)))))))

  -- tensor t, once its layout is read: its words come next
  unfoldable pub words_after : ℕ → Layout → ℕ → Reading Tensor
  words_after t layout at = then (words_record t at) (λ words. got (tensor layout words))

  -- tensor t: its layout, then its words
  unfoldable pub tensor_records : ℕ → ℕ → Reading Tensor
  tensor_records t at = then (layout_record t at) (words_after t)
