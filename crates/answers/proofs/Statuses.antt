-- The number of a result is that of the answer that it gives.
-- Assumes nothing.
use mathlib.Core.Path.{◌≡◌, refl}
use Prim.Native.Nat.{ℕ}
use Rattle.std.specs.Prelude.{Result, Ok, Err}
use Rattle.refusals.specs.declared.refusal.Refusal.{Refusal}
use Rattle.refusals.specs.Numbers.{status}
use Rattle.tiles.specs.declared.grid.State.{State}
use Rattle.answers.specs.declared.tile_answer.Ran.{Ran}
use Rattle.answers.specs.declared.delay_answer.Found.{Found}
use Rattle.answers.specs.PlainAnswer.{plain_answer}
use Rattle.answers.specs.TileAnswer.{tile_answer}
use Rattle.answers.specs.StateAnswer.{state_answer}
use Rattle.answers.specs.DelayAnswer.{delay_answer}
use Rattle.answers.specs.FlatPlain.{plain_status}
use Rattle.answers.specs.FlatTiles.{tile_status}
use Rattle.answers.specs.FlatState.{state_status}
use Rattle.answers.specs.FlatDelay.{delay_status}

pub plain_number : (r : Result (Unit {0}) Refusal) → status r ≡ plain_status (plain_answer r)
plain_number (Ok x) = refl
plain_number (Err e) = refl

pub tile_number : (given : ℕ) (r : Result Ran Refusal) → status r ≡ tile_status (tile_answer given r)
tile_number given (Ok x) = refl
tile_number given (Err e) = refl

pub state_number : (r : Result State Refusal) → status r ≡ state_status (state_answer r)
state_number (Ok x) = refl
state_number (Err e) = refl

pub delay_number : (r : Result Found Refusal) → status r ≡ delay_status (delay_answer r)
delay_number (Ok x) = refl
delay_number (Err e) = refl
