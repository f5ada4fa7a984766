-- Indices: a value for each letter. The index of counts of groups, and sums over all values of a group's labels.
-- Assumes nothing.
use Rattle.std.specs.Prelude.{ℕ, ◌/◌, ◌%◌, cond, List, [], ◌∷◌, eqb}
use Rattle.words.specs.Sums.{sum_to}
use Rattle.contraction.specs.Operands.{Shape}
use Rattle.groups.specs.Groups.{Label, Group, group, outputs}

-- the index ρ with the value v for the letter c
abbrev pub assign : (ℕ → ℕ) → ℕ → ℕ → ℕ → ℕ
assign ρ c v d = cond (eqb d c) v (ρ d)

-- the index ρ with the digits of the count n for the labels of g, the first label running fastest
abbrev pub at : List Label → ℕ → (ℕ → ℕ) → ℕ → ℕ
at [] n ρ = ρ
at (l ∷ g) n ρ = assign (at g (n / l.extent) ρ) l.letter (n % l.extent)

-- the sum of f over all values of the labels of g
abbrev pub sum_over : List Label → ((ℕ → ℕ) → ℕ) → (ℕ → ℕ) → ℕ
sum_over [] f ρ = f ρ
sum_over (l ∷ g) f ρ = sum_to l.extent (λ v. sum_over g f (assign ρ l.letter v))

-- the index at the counts of some groups; a letter of any other group has 0
unfoldable pub index : Shape → List (Group × ℕ) → ℕ → ℕ
index s [] = λ c. 0
index s ((g, n) ∷ counts) = at (group s g) n (index s counts)

-- the index of a count of D's labels
unfoldable pub out_index : Shape → ℕ → ℕ → ℕ
out_index s m = at (outputs s) m (λ c. 0)
