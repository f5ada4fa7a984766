-- A text put over lent bytes.
-- Assumes nothing.
use Rattle.std.specs.Prelude.{ℕ, ◌+◌, ◌≡◌, List, ◌++◌, length, take, drop}

-- the bytes with a text put over them from `at` on
abbrev pub written : List ℕ → ℕ → List ℕ → List ℕ
written out at text = take at out ++ (text ++ drop (at + length text) out)

-- a text was put over `out` from `at` on: where it ends, and the bytes now
abbrev pub Put : List ℕ → ℕ → List ℕ → ℕ → List ℕ → Type 0
Put out at text end now = (end ≡ at + length text) × (now ≡ written out at text)

-- a text was put over the start of `out`: where it ends, and the bytes now
abbrev pub Begins : List ℕ → List ℕ → ℕ → List ℕ → Type 0
Begins out text end now = (end ≡ length text) × (now ≡ written out 0 text)
