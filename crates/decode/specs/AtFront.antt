-- The words of a part of the file in an array. Inside contracts only.
-- Assumes nothing.
use Rattle.std.specs.Prelude.{ℕ, ◌≤◌, ◌≡◌, List, length, take}
use Rattle.records.specs.declared.records.WordsPart.{WordsPart}
use Rattle.records.specs.RecordParts.{words_of}

-- the words of a part of the file stand at the front of an array, which is long enough
pub record AtFront (file : List ℕ) (p : WordsPart) (array : List ℕ) : Type 0 where
  pub words : take p.count array ≡ words_of file p
  pub long : p.count ≡ length (take p.count array)
  pub room : p.count ≤ length array
