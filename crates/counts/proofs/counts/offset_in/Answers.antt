-- `offset_in` meets its contract: the offset of a single label's value is that many steps.
-- Assumes nothing.
use Rattle.std.proofs.Common.{◌≡◌, ℕ, ◌*◌, ◌<◌, sym, ap, ◌∙◌, arith}
use Rattle.words.specs.Words.{word, word_of}
use Rattle.contraction.specs.declared.contraction.Operand.{Operand}
use Rattle.groups.specs.declared.groups.Group.{Group}
use Rattle.groups.specs.Groups.{size}
use Rattle.groups.specs.Held.{labels_in}
use Rattle.offsets.specs.Counts.{offset_in}
use Rattle.offsets.specs.FirstLabel.{first_label}
use Rattle.offsets.proofs.Runs.{lone_offset}
use Rattle.counts.proofs.counts.offset_in.Goals as goal

of_one : (g : Group) (o : Operand) (n : ℕ) {step r : ℕ} → g.count < 2 → n < size (labels_in g) → step ≡ word_of 64 ((first_label (labels_in g)).stride o) → r ≡ word 64 (n * step)
    → r ≡ word 64 (offset_in (word_of 64) o (labels_in g) n)
of_one g o n h i e w = w ∙ ap (λ (s : ℕ). word 64 (n * s)) e ∙ sym (ap (word 64) (lone_offset o g h i))

pub returns-then-g-lt2 : goal.returns-then-g-lt2
returns-then-g-lt2 c =
    of_one c.args.g.now _ c.args.n (omega arith) c.requires.1 c.first_step.ensures c.scale.ensures
