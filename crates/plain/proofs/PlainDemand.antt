-- Demand 2 of the plain engine: a call that questions 1 to 9 accept leaves the result.
-- Assumes nothing.
use Rattle.meaning.proofs.Demand2.{result_demand2}
use Rattle.plain.specs.PlainDemand.{PlainMeetsDemand2}
use Rattle.plain.proofs.PlainAnswered.{call_done}

pub demand2 : PlainMeetsDemand2
demand2 c w e = rw (← call_done c w e) (result_demand2 c w e)
