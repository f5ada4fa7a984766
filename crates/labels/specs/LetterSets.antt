-- Sets of letters as the bits of a 64-bit word, and the code's lists of letters. Inside contracts only.
-- A letter's bit is its ASCII code modulo 64: `A` to `Z` have 1 to 26, `a` to `z` 33 to 58.
-- Assumes nothing.
use Rattle.std.specs.Prelude.{◌≡◌, ℕ, ◌/◌, ◌%◌, ◌^◌, ◌≤◌, Bool, true, cond, List, [], ◌∷◌, ◌++◌, ◌==◌}
use Rattle.words.specs.Lists.{first_of, member}
use Rattle.limits.specs.Limits.{letters_limit}
use Rattle.validity.specs.Letters.{is_letter}
use Rattle.labels.specs.declared.letter_sets.Letters.{Letters}

-- the bit of 2 ^ k in a word
abbrev pub bit : ℕ → ℕ → ℕ
bit s k = s / 2 ^ k % 2

-- does the set have the letter?
abbrev pub has : ℕ → ℕ → Bool
has s c = bit s (c % 64) == 1

-- the letters that the code's list holds
unfoldable pub spelled : Letters → List ℕ
spelled x = first_of x.count 0 x.letters

-- the code's list holds the letters cs, and its set has just these
pub record Spells (x : Letters) (cs : List ℕ) : Type 0 where
  pub spells : spelled x ≡ cs
  pub sets : (c : ℕ) → is_letter c ≡ true → has x.set c ≡ member c cs
  pub few : x.count ≤ letters_limit

-- letters with one more behind them, unless they have it
abbrev pub added : ℕ → List ℕ → List ℕ
added c cs = cond (member c cs) cs (cs ++ c ∷ [])
