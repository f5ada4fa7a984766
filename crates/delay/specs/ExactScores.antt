-- What is claimed of the scores: the contraction that makes them is accepted, and its words are the sums of whole numbers.
-- Assumes nothing.
use Rattle.std.specs.Prelude.{ℕ, suc, ◌-◌, ◌^◌, ◌≤◌, ◌<◌, ◌≡◌, List, nat_abs, length, get_or}
use Rattle.limits.specs.Limits.{slice_limit}
use Rattle.contraction.specs.Operands.{three}
use Rattle.answers.specs.PlainAnswer.{plain_done, PlainCall}
use Rattle.plain.specs.PlainCall.{plain_call}
use Rattle.scores.specs.Score.{signed_at, score}
use Rattle.scores.specs.GreatestScore.{DelayAccepted}
use Rattle.delay.specs.Scoring.{scoring}

-- every member is a 32-bit word
abbrev pub AllWords : List ℕ → Type 0
AllWords xs = (i : ℕ) → get_or xs i 0 < 2 ^ 32

module _ (xs ys : List ℕ) (greatest : ℕ) where
  -- the plain call of the scoring contraction, over any D with room for all lags
  abbrev pub scored : List ℕ → PlainCall
  scored d = plain_call (scoring (suc greatest) (length xs - greatest)) (three xs ys d)

  -- it is accepted, and D's words, read as signed, are the exact scores, none of which is over 2 ^ 30 in size
  pub record ExactScores (d : List ℕ) : Type 0 where
    pub accepted : (scored d).answer ≡ plain_done
    pub exact : (lag : ℕ) → lag ≤ greatest → signed_at (scored d).words lag ≡ score xs ys greatest lag
    pub small : (lag : ℕ) → lag ≤ greatest → nat_abs (score xs ys greatest lag) ≤ 2 ^ 30

-- for all recordings and every greatest lag that questions 31 and 32 pass
abbrev pub EveryScoreExact : Type 0
EveryScoreExact = (xs ys : List ℕ) (greatest : ℕ) → DelayAccepted xs ys greatest → AllWords xs → AllWords ys
    → (d : List ℕ) → suc greatest ≤ length d → length d ≤ slice_limit → ExactScores xs ys greatest d
