-- Stretches of two blocks, at the ends of a block and above 64, and of every block of up to 6 offsets that are each 1 or 2 past the one before.
-- Assumes nothing.
use Rattle.std.specs.Prelude.{◌≡◌, ℕ, zero, suc, ◌+◌, Bool, true, cond, List, [], ◌∷◌, ◌++◌, map, length, take, drop, nat_eq}
use Rattle.words.specs.Lists.{tabulate}
use Rattle.words.specs.Sums.{every}
use Rattle.block.specs.Block.{classify}
use Rattle.block.specs.Stretches.{longest, longest_from, stretches, is_even}

-- all lists of x and n offsets after it, each 1 or 2 past the one before
abbrev pub rising_from : ℕ → ℕ → List (List ℕ)
rising_from x zero = (x ∷ []) ∷ []
rising_from x (suc n) = map (λ l. x ∷ l) (rising_from (x + 1) n ++ rising_from (x + 2) n)

-- how many of the first n beginnings of xs, of one offset, two, .., are even
abbrev pub even_among : ℕ → List ℕ → ℕ
even_among zero xs = 0
even_among (suc n) xs = cond (is_even (classify (take (suc n) xs))) (suc (even_among n xs)) (even_among n xs)

-- from each place on there are as many even beginnings as the longest is long
abbrev pub even_as_long : List ℕ → Bool
even_as_long xs = every (λ i. nat_eq (longest (drop i xs)) (even_among (length (drop i xs)) (drop i xs))) (tabulate (length xs) (λ i. i))

pub record StretchCases : Type 0 where
  -- "how many of its first offsets form the longest even beginning, and the same from any later place in the block; from a place at or past its end it is 0"
  pub first : longest_from 5 (0 ∷ 1 ∷ 2 ∷ 10 ∷ 11 ∷ []) 0 ≡ 3
  pub later : tabulate 7 (longest_from 5 (0 ∷ 1 ∷ 2 ∷ 10 ∷ 11 ∷ [])) ≡ 3 ∷ 2 ∷ 2 ∷ 2 ∷ 1 ∷ 0 ∷ 0 ∷ []
  pub in_order : stretches 5 (0 ∷ 1 ∷ 2 ∷ 10 ∷ 11 ∷ []) ≡ (0 ∷ 1 ∷ 2 ∷ []) ∷ (10 ∷ 11 ∷ []) ∷ []
  -- offsets past the count are not in the block
  pub past_count : longest_from 2 (0 ∷ 1 ∷ 2 ∷ []) 0 ≡ 2
  -- downwards, and below 0, as address words
  pub down : longest_from 4 (1 ∷ 0 ∷ 18446744073709551615 ∷ 7 ∷ []) 0 ≡ 3
  -- a count above 64 is read as 64: the 64 offsets 1, 2, .., 64, from the first place, the last and the one after it
  pub above_64 : longest_from 65 (tabulate 64 suc) 0 ≡ 64
  pub last_of_64 : longest_from 65 (tabulate 64 suc) 63 ≡ 1
  pub past_64 : longest_from 65 (tabulate 64 suc) 64 ≡ 0
  pub all_splits : every (λ n. every even_as_long (rising_from 7 n)) (tabulate 6 (λ n. n)) ≡ true
