-- Lists made of counts, and what a test keeps of a list.
-- Assumes nothing.
use Rattle.std.specs.Prelude.{ℕ, zero, suc, Bool, true, false, not, ◌||◌, List, [], ◌∷◌, ◌==◌, slice_index_or}

-- f 0, f 1, .., f (n - 1)
abbrev pub tabulate : {X : Type 0} → ℕ → (ℕ → X) → List X
tabulate zero f = []
tabulate (suc n) f = f 0 ∷ tabulate n (λ i. f (suc i))

-- the first n items of an array, `default` where it has fewer
abbrev pub first_of : {X : Type 0} → ℕ → X → List X → List X
first_of n default xs = tabulate n (λ i. slice_index_or xs i default)

abbrev pub cons_if : {X : Type 0} → Bool → X → List X → List X
cons_if true x xs = x ∷ xs
cons_if false x xs = xs

-- the members that pass the test, in order
abbrev pub keep : {X : Type 0} → (X → Bool) → List X → List X
keep p [] = []
keep p (x ∷ xs) = cons_if (p x) x (keep p xs)

abbrev pub member : ℕ → List ℕ → Bool
member c [] = false
member c (d ∷ ds) = c == d || member c ds

-- each number once, in order of first appearance
abbrev pub distinct : List ℕ → List ℕ
distinct [] = []
distinct (c ∷ cs) = c ∷ keep (λ d. not (c == d)) (distinct cs)
