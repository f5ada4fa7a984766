-- C's words behind the Option in which an engine holds them. Inside contracts only.
-- Assumes nothing.
use Rattle.std.specs.Prelude.{ℕ, Some, None, Option, List, []}
use Rattle.std.specs.Borrow.{Bor}

-- no words where C is not named
abbrev pub words_of : Option (Bor (List ℕ)) → List ℕ
words_of None = []
words_of (Some c) = c.now
