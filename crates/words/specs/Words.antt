-- Words of w bits, and whole numbers as words in two's complement.
-- Assumes nothing.
use Rattle.std.specs.Prelude.{ℕ, suc, ◌-◌, ◌%◌, ◌^◌, cond, ℤ, pos, negsuc, nat_lt}

-- a number as a word of w bits: sums and products are taken modulo 2 ^ w
abbrev pub word : ℕ → ℕ → ℕ
word w n = n % 2 ^ w

-- how far a whole number goes up, and how far down: one of the two is 0
abbrev pub up : ℤ → ℕ
up (pos n) = n
up (negsuc n) = 0

abbrev pub down : ℤ → ℕ
down (pos n) = 0
down (negsuc n) = suc n

-- a whole number as a word of w bits, two's complement
abbrev pub word_of : ℕ → ℤ → ℕ
word_of w (pos n) = n
word_of w (negsuc n) = 2 ^ w - suc n

-- a word of w bits read as signed
abbrev pub signed : ℕ → ℕ → ℤ
signed w x = cond (nat_lt x (2 ^ (w - 1))) (pos x) (negsuc ((2 ^ w - 1) - x))
