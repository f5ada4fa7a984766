-- Sums side by side with a product added to each. Inside contracts only.
-- Assumes nothing.
use Rattle.std.specs.Prelude.{ℕ, ◌+◌, ◌*◌, List, slice_index}
use Rattle.words.specs.Words.{word}
use Rattle.words.specs.Loops.{each, put}
use Rattle.words.specs.Stepped.{stepped}

-- sums with n numbers added, one to each
abbrev pub products_added : ℕ → (ℕ → ℕ) → List ℕ → List ℕ
products_added n f = each n (λ r. put (λ w. word 32 (w + f r)) r)

-- x's word r places past `from` × one word
abbrev pub scaled : List ℕ → ℕ → ℕ → ℕ → ℕ
scaled x from by r = slice_index x (from + r) * by

-- x's word r steps from `from` × one word
abbrev pub spread : List ℕ → ℕ → ℕ → ℕ → ℕ → ℕ
spread x from step by r = slice_index x (stepped from step r) * by

-- a's word × b's word, r steps from i and from j
abbrev pub products : List ℕ → ℕ → ℕ → List ℕ → ℕ → ℕ → ℕ → ℕ
products a i s b j t r = slice_index a (stepped i s r) * slice_index b (stepped j t r)
