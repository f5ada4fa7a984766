-- The record `GO` with different numbers in all its fields.
-- Assumes nothing.
use Rattle.std.specs.Prelude.{ℕ, ◌≡◌, List, [], ◌∷◌}
use Rattle.records.specs.Records.{got, file_refused}
use Rattle.go.specs.Record.{go_record}

-- alpha 1, beta 258; 3 rows, 4 columns, depth 5; 6 tiles done, budget 7
abbrev bytes : List ℕ
bytes = 71 ∷ 79 ∷ 1 ∷ 0 ∷ 0 ∷ 0 ∷ 2 ∷ 1 ∷ 0 ∷ 0 ∷ 3 ∷ 0 ∷ 4 ∷ 0 ∷ 5 ∷ 0 ∷ 6 ∷ 0 ∷ 0 ∷ 0 ∷ 7 ∷ 0 ∷ 0 ∷ 0 ∷ []

pub record GoCases : Type 0 where
  -- "`GO`: alpha, beta (4 each), rows, cols, depth (2 each), tiles done, budget (4 each)", "Little-endian"
  pub fields : go_record bytes 0 ≡ got (record { alpha = 1; beta = 258; sizes = record { rows = 3; cols = 4; depth = 5 }; done = 6; budget = 7 }) 24
  -- "are two bytes there? 21. Is the mark one allowed here? 20. .. Is the whole record there? 21."
  pub no_mark : go_record (71 ∷ []) 0 ≡ file_refused 21
  pub other_mark : go_record (71 ∷ 80 ∷ []) 0 ≡ file_refused 20
  pub cut_off : go_record (71 ∷ 79 ∷ []) 0 ≡ file_refused 21
