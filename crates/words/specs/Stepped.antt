-- Address words one step after the other.
-- Assumes nothing.
use Rattle.std.specs.Prelude.{ℕ, ◌+◌, ◌*◌}
use Rattle.words.specs.Words.{word}

-- the address word v steps from x
abbrev pub stepped : ℕ → ℕ → ℕ → ℕ
stepped x s v = word 64 (x + v * s)
