-- What the code's answer says. Inside contracts only.
-- Assumes nothing.
use Rattle.std.specs.Prelude.{ℕ, List}
use Rattle.go.specs.declared.go.Go.{Go}

module _ (file : List ℕ) where
  abbrev pub go_in : Go → Go
  go_in go = go

  abbrev pub GoHeld : Go → Type 0
  GoHeld go = Unit {0}
