-- What the code's answers say, and what its functions may assume. Inside contracts only.
-- Assumes nothing.
use Rattle.std.specs.Prelude.{ℕ, ◌+◌, ◌*◌, ◌≤◌, ◌≡◌, ◌⊎◌, List, length, Result, Ok, Err}
use Rattle.limits.specs.Limits.{rank_limit, job_limit}
use Rattle.layout.specs.declared.layout.Layout.{Layout}
use Rattle.little_endian.specs.declared.numbers.Cursor.{Cursor}
use Rattle.little_endian.specs.Bytes.{numbers}
use Rattle.refusals.specs.declared.refusal.Refusal.{Refusal}
use Rattle.refusals.specs.Numbers.{number}
use Rattle.records.specs.declared.records.LayoutPart.{LayoutPart}
use Rattle.records.specs.declared.records.WordsPart.{WordsPart}
use Rattle.records.specs.declared.records.TensorParts.{TensorParts}
use Rattle.records.specs.Records.{Reading, got, file_refused, Tensor, tensor, layout_at}

-- the code's answer as a reading of the part that it holds
abbrev pub reading : {P : Type 0} → Result (P × Cursor) Refusal → Reading P
reading (Ok (p, next)) = got p next.at
reading (Err refusal) = file_refused (number refusal)

module _ (file : List ℕ) where
  -- what stands at a part of the file: a layout, words, a tensor, what `GO` holds, a job
  abbrev pub layout_in : LayoutPart → Layout
  layout_in p = layout_at file p.at p.rank

  abbrev pub words_of : WordsPart → List ℕ
  words_of p = numbers file p.width p.count p.at

  abbrev pub tensor_in : TensorParts → Tensor
  tensor_in p = tensor (layout_in p.layout) (words_of p.words)

  -- all of a part is in the file, and in the limits; `GO` was taken out of the file
  pub record LayoutHeld (p : LayoutPart) : Type 0 where
    pub few : p.rank ≤ rank_limit
    pub inside : p.at + (9 * p.rank + 4) ≤ length file

  pub record WordsHeld (p : WordsPart) : Type 0 where
    pub few : p.count ≤ job_limit
    pub wide : (p.width ≡ 4) ⊎ (p.width ≡ 1)
    pub inside : p.at + p.width * p.count ≤ length file

  pub record TensorHeld (p : TensorParts) : Type 0 where
    pub layout : LayoutHeld p.layout
    pub words : WordsHeld p.words

-- a reading with another value
abbrev pub map_reading : {P X : Type 0} → (P → X) → Reading P → Reading X
map_reading f (got p next) = got (f p) next
map_reading f (file_refused number) = file_refused number

-- where a part was read, it is held, and what follows begins in the file
abbrev pub Held : {P : Type 0} → (List ℕ → P → Type 0) → List ℕ → Reading P → Type 0
Held held file (got p next) = held file p × (next ≤ length file)
Held held file (file_refused number) = Unit {0}

-- the code's reading of a part comes to `all`, by what stands there; and what the code may assume of it
pub record ReadAs {P X : Type 0} (of : List ℕ → P → X) (held : List ℕ → P → Type 0) (file : List ℕ) (read : Reading P) (all : Reading X) : Type 0 where
  pub same : map_reading (of file) read ≡ all
  pub sound : Held held file read
