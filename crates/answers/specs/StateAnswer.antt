-- What a state question answers.
-- Assumes nothing.
use Rattle.std.specs.Prelude.{ℕ, Result, Ok, Err}
use Rattle.refusals.specs.declared.refusal.Refusal.{Refusal}
use Rattle.refusals.specs.Numbers.{number}
use Rattle.tiles.specs.declared.grid.State.{State as StateCode}
use Rattle.tiles.specs.Progress.{State}
use Rattle.tiles.specs.Grid.{state_of}

-- a state, or the number of the question that refused
pub data StateAnswer : Type 0 where
  is : State → StateAnswer
  state_refused : (number : ℕ) → StateAnswer

-- the answer that the code's result gives
abbrev pub state_answer : Result StateCode Refusal → StateAnswer
state_answer (Ok s) = is (state_of s)
state_answer (Err e) = state_refused (number e)
