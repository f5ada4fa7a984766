-- What the flat state question gives.
-- Assumes nothing.
use Rattle.std.specs.Prelude.{ℕ}
use Rattle.tiles.specs.Progress.{old, part, final}
use Rattle.answers.specs.StateAnswer.{StateAnswer, is, state_refused}

-- the number that is returned: 0 where there is a state
abbrev pub state_status : StateAnswer → ℕ
state_status (is s) = 0
state_status (state_refused number) = number

-- the state as a number, which stays as it was where the question was refused
abbrev pub state_after : StateAnswer → ℕ → ℕ
state_after (is old) before = 0
state_after (is part) before = 1
state_after (is final) before = 2
state_after (state_refused number) before = before

-- what a question returns, and the number that it sets
pub record FlatState : Type 0 where
  pub status : ℕ
  pub state : ℕ

abbrev pub state_returned : ℕ → ℕ → FlatState
state_returned status state = record { status = status; state = state }

abbrev pub flat_state : ℕ → StateAnswer → FlatState
flat_state before answer = state_returned (state_status answer) (state_after answer before)
