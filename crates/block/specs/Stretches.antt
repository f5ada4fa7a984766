-- The even stretches of a block of offsets: the longest even beginning, the same from any later place, and what is claimed of them.
-- Assumes nothing.
use Rattle.std.specs.Prelude.{◌≡◌, ℕ, zero, suc, ◌+◌, ◌<◌, ◌≤◌, Bool, true, false, cond, List, [], ◌∷◌, ◌++◌, length, take, drop, ◌==◌, nat_le}
use Rattle.words.specs.Sums.{All}
use Rattle.words.specs.Words.{word}
use Rattle.block.specs.Block.{Step, even, scattered, step_from, classify, in_use}

-- from x on, how many offsets in a row are each the one before plus s
abbrev pub following : ℕ → ℕ → List ℕ → ℕ
following s x [] = 0
following s x (y ∷ ys) = cond (y == word 64 (x + s)) (suc (following s y ys)) 0

-- how many of the first offsets form the longest even beginning: all of one or none, else the first and those that follow it by the first step
unfoldable pub longest : List ℕ → ℕ
longest [] = 0
longest (x ∷ []) = 1
longest (x ∷ y ∷ ys) = suc (following (step_from x y) x (y ∷ ys))

-- the same from place i on of a block with `count` of the offsets in use; 0 at or past its end
unfoldable pub longest_from : ℕ → List ℕ → ℕ → ℕ
longest_from count offsets i = longest (drop i (in_use count offsets))

-- the stretches of a list, one after the other: each is the longest even beginning of what those before it leave; `most` of them at most
abbrev pub stretches : ℕ → List ℕ → List (List ℕ)
stretches zero xs = []
stretches (suc most) [] = []
stretches (suc most) (x ∷ xs) = take (longest (x ∷ xs)) (x ∷ xs) ∷ stretches most (drop (longest (x ∷ xs)) (x ∷ xs))

-- ---- what is claimed of them

abbrev pub is_even : Step → Bool
is_even (even s) = true
is_even scattered = false

-- of all beginnings of xs exactly those of at most n offsets are even
pub record LongestEven (xs : List ℕ) (n : ℕ) : Type 0 where
  pub inside : n ≤ length xs
  pub exactly : (m : ℕ) → m ≤ length xs → is_even (classify (take m xs)) ≡ nat_le m n

abbrev pub joined : List (List ℕ) → List ℕ
joined [] = []
joined (p ∷ ps) = p ++ joined ps

-- none can be longer: with the offset that follows it, a stretch is no longer even
abbrev pub Furthest : List (List ℕ) → Type 0
Furthest [] = Unit
Furthest (p ∷ []) = Unit
Furthest (p ∷ q ∷ ps) = (is_even (classify (p ++ take 1 q)) ≡ false) × Furthest (q ∷ ps)

-- joined they are the list: each place is in one of them, once and in order; they are even, none is empty and none can be longer
pub record Covered (xs : List ℕ) (parts : List (List ℕ)) : Type 0 where
  pub whole : joined parts ≡ xs
  pub evenly : All (λ p. is_even (classify p) ≡ true) parts
  pub filled : All (λ p. 0 < length p) parts
  pub furthest : Furthest parts

-- of a block with n of the offsets in use, which are address words: from the last place, from the one before it, and past the end
pub record Ends (offsets : List ℕ) (n : ℕ) : Type 0 where
  pub last : (i : ℕ) → i + 1 ≡ n → longest_from n offsets i ≡ 1
  pub before_last : (i : ℕ) → i + 2 ≡ n → longest_from n offsets i ≡ 2
  pub past : (i : ℕ) → n ≤ i → longest_from n offsets i ≡ 0
