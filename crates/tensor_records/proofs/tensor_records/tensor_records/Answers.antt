-- `tensor_records` meets its contract: what the layout's record read as goes on to the words, and what they read as to the tensor, or one of them refuses the file.
-- Assumes nothing.
use mathlib.Core.Path.{refl}
use Rattle.records.specs.Records.{words_after, tensor_records}
use Rattle.records.proofs.Reading.{goes_on, stops, passed_on}
use Rattle.tensor_records.proofs.tensor_records.tensor_records.Goals as goal

pub returns-in_err-layout : goal.returns-in_err-layout
unfolding tensor_records
returns-in_err-layout c = stops _ _ c.in_err-layout.ensures (passed_on _ c.from_residual.ensures.1 refl)

pub returns-in_err-words : goal.returns-in_err-words
unfolding words_after tensor_records
returns-in_err-words c =
    goes_on _ _ c.in_ok-layout.ensures (stops _ _ c.in_err-words.ensures (passed_on _ c.from_residual-in_err-words.ensures.1 refl))

pub returns : goal.returns
unfolding words_after tensor_records
returns c =
    let layout = c.in_ok-layout.ensures in
    let words = c.in_ok-words.ensures in
    goes_on _ _ layout (goes_on _ _ words (record { same = refl; sound = (record { layout = layout.sound.0; words = words.sound.0 }, words.sound.1) }))
