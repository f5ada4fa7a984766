-- `continues` meets its contract. The invariant: what was asked of the first o tensors, and `follows` of those from o on, is `follows` of all.
-- Assumes nothing.
use Rattle.std.proofs.Common.{◌≡◌, ℕ, Bool, ◌&&◌, drop}
use Rattle.words.specs.Sums.{every}
use Rattle.contraction.specs.Operands.{operands}
use Rattle.groups.specs.Groups.{Label}
use Rattle.groups.specs.Held.{as_label}
use Rattle.folding.specs.Fold.{follows, joins}
use Rattle.folding.proofs.fold.continues.Given as goal

-- what is left to ask from tensor o on
abbrev pub asked_from : Label → Label → ℕ → Bool
asked_from p l o = every (follows p l) (drop o operands)

abbrev pub invariant-loop-o : goal.invariant-loop-o
invariant-loop-o l = (l.all && asked_from (as_label l.p) (as_label l.l) l.o) ≡ joins (as_label l.p) (as_label l.l)
