-- What a tile call answers, and every lent word afterwards.
-- Assumes nothing.
use Rattle.std.specs.Prelude.{ℕ, Bool, List, Result, Ok, Err}
use Rattle.refusals.specs.declared.refusal.Refusal.{Refusal}
use Rattle.refusals.specs.Numbers.{number as number_of}
use Rattle.answers.specs.declared.tile_answer.Ran.{Ran}

-- the new count of tiles done and whether that is the total; or the number of the question that refused, and the count as given
pub data TileAnswer : Type 0 where
  ran : (done : ℕ) (complete : Bool) → TileAnswer
  tile_refused : (number done : ℕ) → TileAnswer

-- the tiles done that it says
abbrev pub done_in : TileAnswer → ℕ
done_in (ran done complete) = done
done_in (tile_refused number done) = done

-- the answer that the code's result gives, of a call with a count of tiles done
abbrev pub tile_answer : ℕ → Result Ran Refusal → TileAnswer
tile_answer given (Ok x) = ran x.done x.complete
tile_answer given (Err e) = tile_refused (number_of e) given

-- the answer of a tile call, D's words and the work slice afterwards
pub record TileCall : Type 0 where
  pub answer : TileAnswer
  pub words : List ℕ
  pub work : List ℕ

abbrev pub tile_call_of : TileAnswer → List ℕ → List ℕ → TileCall
tile_call_of answer words work = record { answer = answer; words = words; work = work }
