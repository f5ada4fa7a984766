-- `clear` meets its contract: what fills the words is `-`.
-- Assumes nothing.
use Rattle.std.proofs.Common.{◌≡◌, ℕ, zero, suc, ◌∷◌, List, length, replicate, refl, ap, ◌∙◌}
use Rattle.words.specs.Lists.{tabulate}
use Rattle.letters.specs.PrintedLetters.{outside}
use Rattle.letters.proofs.letters.clear.Goals as goal

all_same : (n v : ℕ) → replicate n v ≡ tabulate n (λ k. v)
all_same zero v = refl
all_same (suc n) v = ap (λ (vs : List ℕ). v ∷ vs) (all_same n v)

pub returns : goal.returns
returns c = c.fill.ensures.after (λ y e. e) ∙ all_same (length c.args.out.now) outside
