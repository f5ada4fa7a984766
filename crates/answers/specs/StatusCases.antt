-- The numbers that the calls for C and Rust return and set.
-- Assumes nothing.
use Rattle.std.specs.Prelude.{◌≡◌, true, false, [], ◌∷◌, pos, negsuc}
use Rattle.tiles.specs.Progress.{old, part, final}
use Rattle.answers.specs.PlainAnswer.{plain_done, plain_refused}
use Rattle.answers.specs.TileAnswer.{ran, tile_refused}
use Rattle.answers.specs.StateAnswer.{is, state_refused}
use Rattle.answers.specs.DelayAnswer.{lag_found, delay_refused}
use Rattle.answers.specs.FlatPlain.{plain_status}
use Rattle.answers.specs.FlatTiles.{tile_status, said_complete}
use Rattle.answers.specs.FlatState.{state_status, state_after}
use Rattle.answers.specs.FlatDelay.{delay_returned, flat_delay}

pub record StatusCases : Type 0 where
  -- 0 where nothing refuses, else the question's number
  pub plain : plain_status plain_done ∷ plain_status (plain_refused 9) ∷ [] ≡ 0 ∷ 9 ∷ []
  pub tiles : tile_status (ran 8 true) ∷ tile_status (tile_refused 12 3) ∷ [] ≡ 0 ∷ 12 ∷ []
  pub state : state_status (is final) ∷ state_status (state_refused 13) ∷ [] ≡ 0 ∷ 13 ∷ []
  -- 1 where the tiles done are the total
  pub complete : said_complete (ran 8 true) ∷ said_complete (ran 3 false) ∷ said_complete (tile_refused 12 8) ∷ [] ≡ 1 ∷ 0 ∷ 0 ∷ []
  -- 0 old, 1 part, 2 final; as it was, here 7, where the question was refused
  pub found : state_after (is old) 7 ∷ state_after (is part) 7 ∷ state_after (is final) 7 ∷ state_after (state_refused 13) 7 ∷ [] ≡ 0 ∷ 1 ∷ 2 ∷ 7 ∷ []
  -- a lag and its score, -1; as they were, here 7 and 5, where the call was refused
  pub delay : flat_delay 7 (pos 5) (lag_found 2 (negsuc 0)) ∷ flat_delay 7 (pos 5) (delay_refused 31) ∷ []
      ≡ delay_returned 0 2 (negsuc 0) ∷ delay_returned 31 7 (pos 5) ∷ []
