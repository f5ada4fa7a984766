-- `sample_fits` meets its contract: its two tests are the question's, of the number that the word's bits read as.
-- Assumes nothing.
use mir.Syntax.{w32}
use mir.ValLaws.{to_z-of_z}
use Rattle.scores.specs.DelayQuestions.{sample_fits}
use Rattle.scores.proofs.delay_questions.sample_fits.Goals as goal

pub returns : goal.returns
unfolding sample_fits
returns c = rw (to_z-of_z w32 c.signed-sample.result (record { sfits = c.signed-sample.type_inv }), c.signed-sample.ensures)
