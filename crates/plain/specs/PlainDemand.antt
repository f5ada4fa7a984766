-- Demand 2 of the plain engine.
-- Assumes nothing.
use Rattle.std.specs.Prelude.{◌≡◌}
use Rattle.contraction.specs.declared.contraction.Contraction.{Contraction}
use Rattle.meaning.specs.Meaning.{Slices, first_no}
use Rattle.meaning.specs.Demand2.{Demand2}
use Rattle.plain.specs.PlainCall.{plain_call}

-- for every contraction and all slices that questions 1 to 9 pass, demand 2 holds of D's words after the call
abbrev pub PlainMeetsDemand2 : Type 0
PlainMeetsDemand2 = (c : Contraction) (w : Slices) → first_no c w ≡ 0 → Demand2 c w (plain_call c w).words
