-- A job's contraction, and its slices.
-- Assumes nothing.
use Rattle.contraction.specs.declared.contraction.Contraction.{Contraction}
use Rattle.contraction.specs.Operands.{four, contraction_if}
use Rattle.meaning.specs.Meaning.{Slices}
use Rattle.jobfile.specs.Format.{Job}

abbrev pub contraction_in : Job → Contraction
contraction_in j = contraction_if j.named j.a.layout j.b.layout j.c.layout j.d.layout j.go.alpha j.go.beta

abbrev pub slices_in : Job → Slices
slices_in j = four j.a.words j.b.words j.c.words j.d.words
