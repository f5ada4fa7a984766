-- A slice that a loop fills in order: its front is what was put there, and in the end all of it.
-- Assumes nothing.
use Rattle.std.proofs.Common.{◌≡◌, ℕ, ◌+◌, ◌<◌, ◌≤◌, List, length, set, sym, refl, ap, ◌∙◌, arith, length-set}
use Rattle.words.specs.Lists.{tabulate}
use Rattle.words.specs.Fronts.{front}
use Rattle.words.proofs.Fronts.{front_none, front_set, front_all}

module _ {X : Type 0} where
  -- `new` is `old` with f 0, .., f (i - 1) in its first i places
  pub record Filled (f : ℕ → X) (old new : List X) (i : ℕ) : Type 0 where
    pub below : i ≤ length old
    pub long : length new ≡ length old
    pub is : new ≡ front i f old

  module _ (f : ℕ → X) (old : List X) where
    pub filled_none : Filled f old old 0
    filled_none = record { below = omega arith; long = refl; is = sym (front_none f old) }

    pub filled_more : {new : List X} {i : ℕ} {v : X} → Filled f old new i → i < length new → v ≡ f i → Filled f old (set new i v) (i + 1)
    filled_more {new} {i} {v} c h e =
        let k : i < length old = omega arith in
        record { below = omega arith; long = length-set new i v ∙ c.long; is = ap (λ (l : List X). set l i v) c.is ∙ front_set f old i v k e }

    pub filled_all : {new : List X} {i : ℕ} → Filled f old new i → length new ≤ i → new ≡ tabulate (length old) f
    filled_all {new} {i} c h = let z : i ≡ length old = omega arith in c.is ∙ ap (λ (k : ℕ). front k f old) z ∙ front_all f old
