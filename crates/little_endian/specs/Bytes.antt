-- A job file as a list of bytes, and the numbers in it. Little-endian.
-- Assumes nothing.
use Rattle.std.specs.Prelude.{ℕ, zero, suc, ◌+◌, ◌*◌, Bool, List, leb, get_or, length}
use Rattle.words.specs.Lists.{tabulate}

module _ (file : List ℕ) where
  -- are n bytes there, from `at` on?
  abbrev pub has : ℕ → ℕ → Bool
  has at n = leb (at + n) (length file)

  -- the number in the n bytes from `at` on, the least significant first
  unfoldable pub little : ℕ → ℕ → ℕ
  little zero at = 0
  little (suc n) at = get_or file at 0 + 256 * little n (suc at)

  -- n numbers of w bytes each, one after the other
  unfoldable pub numbers : ℕ → ℕ → ℕ → List ℕ
  numbers w n at = tabulate n (λ i. little w (at + w * i))
